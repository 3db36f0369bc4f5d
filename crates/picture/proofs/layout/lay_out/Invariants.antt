use Rattle.std.proofs.Common.{ℕ, ◌<◌, get_or}
use Rattle.picture.specs.Pictures.{Shows}
use Rattle.picture.proofs.layout.lay_out.Given as goal

abbrev pub invariant-loop-k : goal.invariant-loop-k
invariant-loop-k l = (i : ℕ) → i < l.k → Shows l.fn.shape i (get_or l.byte-items i 0)
