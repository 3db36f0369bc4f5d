use Rattle.std.proofs.Common.{◌≡◌, ℕ, ◌^◌, ◌<◌, ◌≤◌, get_or, take}
use Rattle.picture.specs.Requests.{decimal}
use Rattle.picture.proofs.request.number.Given as goal

abbrev pub invariant-loop-b : goal.invariant-loop-b
invariant-loop-b l = record {
  value : l.value ≡ decimal (take l.b-index l.field);
  from_0 : (k : ℕ) → k < l.b-index → 48 ≤ get_or l.field k 0;
  to_9 : (k : ℕ) → k < l.b-index → get_or l.field k 0 ≤ 57;
  small : l.value < 10 ^ l.b-index;
}
