-- What the selectors of at most one entity mean. A line is a row or a column, `line n` the one of number n.
use Rattle.std.specs.Prelude.{ℕ, ◌+◌, ◌-◌, cond, Some, None, Ok, Err, Option, Result, option_map, ◌==◌, nat_lt}
use Rattle.std.specs.Result.{result_map_both}
use Rattle.grid.specs.declared.shape.Shape.{Shape}
use Rattle.grid.specs.declared.entity.Entity.{Entity}
use Rattle.grid.specs.declared.entity.Entity.TheVariants.{Global}
use Rattle.grid.specs.declared.refusal.Refusal.{Refusal}
use Rattle.grid.specs.declared.refusal.Refusal.TheVariants.{PastLast}
use Rattle.grid.specs.Positions.{is_empty}
use Rattle.object.specs.Cells.{up_to_127}
use Rattle.single.specs.declared.offset.Offset.{Offset}
use Rattle.single.specs.declared.offset.Offset.TheVariants.{Plus, Minus}

abbrev pub nth_meant : (ℕ → Entity) → ℕ → Result (Option Entity) Refusal
nth_meant line n = up_to_127 n (Ok (Some (line n)))

abbrev pub all_meant : Result (Option Entity) Refusal
all_meant = Ok (Some Global)

-- an entity, or nothing on an empty shape
abbrev pub unless_empty : Shape → Entity → Result (Option Entity) Refusal
unless_empty s e = Ok (cond (is_empty s) None (Some e))

abbrev pub first_meant : (ℕ → Entity) → Shape → Result (Option Entity) Refusal
first_meant line s = unless_empty s (line 0)

-- the last of so many, or nothing on an empty shape
abbrev pub last_meant : (ℕ → Entity) → ℕ → Shape → Result (Option Entity) Refusal
last_meant line count s = unless_empty s (line (count - 1))

-- Counted from the last of n, onward or back. Onward, what comes above 127 is refused; back, nothing lies before the first.
-- Where there are none, there is no last to count from.
abbrev pub from_last : ℕ → Offset → Result (Option ℕ) Refusal
from_last n (Plus k) = up_to_127 k (cond (n == 0) (Ok None) (cond (nat_lt (n - 1 + k) 128) (Ok (Some (n - 1 + k))) (Err PastLast)))
from_last n (Minus k) = up_to_127 k (Ok (cond (nat_lt k n) (Some (n - 1 - k)) None))

-- the line of a number, where there is one
abbrev pub named : (ℕ → Entity) → Result (Option ℕ) Refusal → Result (Option Entity) Refusal
named line = result_map_both (option_map line) (λ e. e)

-- a shape without columns has no last row to count from
abbrev pub rows_counted : Shape → ℕ
rows_counted s = cond (is_empty s) 0 s.rows
