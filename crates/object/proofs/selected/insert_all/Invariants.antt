use Rattle.std.proofs.Common.{◌≡◌, ℕ, ◌||◌}
use Rattle.grid.specs.Positions.{member}
use Rattle.grid.specs.Cursors.{remaining}
use Rattle.grid.specs.Sets.{has}
use Rattle.object.proofs.selected.insert_all.Given as goal

abbrev pub invariant-loop-position : goal.invariant-loop-position
invariant-loop-position l =
    (a b : ℕ)
    → (member (a, b) (remaining l.position-iterator) || has l.set (a, b))
    ≡ (member (a, b) (remaining l.initial.position-iterator) || has l.initial.set (a, b))
