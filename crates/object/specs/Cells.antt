-- What the selectors of one cell mean.
use Rattle.std.specs.Prelude.{ℕ, cond, Some, Ok, Err, Option, Result, nat_lt}
use Rattle.grid.specs.declared.entity.Entity.{Entity}
use Rattle.grid.specs.declared.entity.Entity.TheVariants.{Cell}
use Rattle.grid.specs.declared.refusal.Refusal.{Refusal}
use Rattle.grid.specs.declared.refusal.Refusal.TheVariants.{OutOfRange}
use Rattle.grid.specs.Positions.{Coordinates, cell_at}

-- a number above 127 is out of range
abbrev pub up_to_127 : {X : Type 0} → ℕ → Result X Refusal → Result X Refusal
up_to_127 n m = cond (nat_lt n 128) m (Err OutOfRange)

abbrev pub cell_meant : ℕ → ℕ → Result (Option Entity) Refusal
cell_meant r c = up_to_127 r (up_to_127 c (Ok (Some (Cell r c))))

-- a position has no number above 127
abbrev pub position_meant : Coordinates → Result (Option Entity) Refusal
position_meant p = Ok (Some (cell_at p))
