-- What a cursor has still to give.
use Rattle.std.specs.Prelude.{ℕ, ◌+◌, ◌-◌, cond, List, [], ◌++◌, nat_lt}
use Rattle.grid.specs.declared.iterator.EntityIterator.{EntityIterator}
use Rattle.grid.specs.Positions.{Coordinates, line, block}

-- what is left of a block from (row, column) on
abbrev pub rest : ℕ → ℕ → ℕ → ℕ → ℕ → List Coordinates
rest row column left right bottom =
    cond (nat_lt row bottom) (line row column (right - column) ++ block (row + 1) (bottom - (row + 1)) left (right - left)) []

abbrev pub remaining : EntityIterator → List Coordinates
remaining w = rest w.row w.column w.left w.right w.bottom
