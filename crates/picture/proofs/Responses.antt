-- The answer to a line that was read.
use Rattle.std.proofs.Common.{◌≡◌, ℕ, List, Result, Ok, MatchResult, inl}
use Rattle.grid.specs.declared.refusal.Refusal.{Refusal}
use Rattle.picture.specs.declared.request.Request.{Request}
use Rattle.picture.specs.Requests.{Asks}
use Rattle.picture.specs.Pictures.{LaidOut}
use Rattle.picture.specs.Responses.{Responds}

-- the request that was read is the one that the answer draws
pub drawn : (line before after : List ℕ) (r : Result ℕ Refusal) (read : Result Request Refusal) (q : Request) (Refused : Refusal → Type 0) → read ≡ Ok q → MatchResult read (λ p. Asks line p) Refused → LaidOut q.shape before r after → Responds line before r after
drawn line before after r read q Refused ok asks laid = inl (q, rw ok at asks, laid)
