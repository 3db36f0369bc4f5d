use Rattle.std.proofs.Common.{◌≡◌, ℕ, ◌||◌}
use Rattle.grid.specs.Positions.{member}
use Rattle.grid.specs.Sets.{has}
use Rattle.object.specs.Meanings.{positions}
use Rattle.object.proofs.selected.collect.Given as goal

abbrev pub invariant-loop-entity : goal.invariant-loop-entity
invariant-loop-entity g l =
    (a b : ℕ)
    → (member (a, b) (positions l.shape (g.C.Cursor.to_come l.entity-iterator)) || has l.set (a, b))
    ≡ member (a, b) (positions l.shape (g.C.Cursor.to_come l.initial.entity-iterator))
