-- The set of the positions that a selector picks.
use Rattle.std.specs.Prelude.{◌≡◌, ℕ, Ok, Err, Result}
use Rattle.grid.specs.declared.shape.Shape.{Shape}
use Rattle.grid.specs.declared.refusal.Refusal.{Refusal}
use Rattle.grid.specs.declared.set.PositionSet.{PositionSet}
use Rattle.grid.specs.Positions.{member}
use Rattle.grid.specs.Sets.{has}
use Rattle.object.specs.Meanings.{Meaning, entities, verdict, positions}

-- the answer is the selector's refusal, or a set that has just the positions of its entities
abbrev pub Selects : Shape → Meaning → Result PositionSet Refusal → Type 0
Selects s m (Err e) = verdict m ≡ Err e
Selects s m (Ok set) = (verdict m ≡ Ok tt) × ((a b : ℕ) → has set (a, b) ≡ member (a, b) (positions s (entities m)))
