-- The answer to one line of input.
use Rattle.std.specs.Prelude.{◌≡◌, ℕ, ◌⊎◌, List, Err, Result}
use Rattle.grid.specs.declared.refusal.Refusal.{Refusal}
use Rattle.grid.specs.declared.refusal.Refusal.TheVariants.{OutOfRange}
use Rattle.picture.specs.declared.request.Request.{Request}
use Rattle.picture.specs.Requests.{Asks}
use Rattle.picture.specs.Pictures.{LaidOut}

-- a line that asks for a sheet gets its picture laid out; any other is out of range, and the page stays
abbrev pub Responds : List ℕ → List ℕ → Result ℕ Refusal → List ℕ → Type 0
Responds line before r after =
    ((q : Request) × Asks line q × LaidOut q.shape before r after)
    ⊎ (((q : Request) → Asks line q → ⊥) × (r ≡ Err OutOfRange) × (after ≡ before))
