-- What a diagonal lists.
use Rattle.std.specs.Prelude.{ℕ, zero, suc, ◌+◌, ◌-◌, min, List, [], ◌∷◌, map, Ok}
use Rattle.grid.specs.declared.entity.Entity.{Entity}
use Rattle.grid.specs.declared.shape.Shape.{Shape}
use Rattle.grid.specs.Positions.{Coordinates, cell_at}
use Rattle.diagonal.specs.declared.diagonal.DiagonalIter.{DiagonalIter}
use Rattle.object.specs.Meanings.{Meaning}
use Rattle.object.specs.Cells.{up_to_127}

-- n positions from (r, c) on, each one row below and one column to the right of the one before
abbrev pub diagonal : ℕ → ℕ → ℕ → List Coordinates
diagonal r c zero = []
diagonal r c (suc n) = (r, c) ∷ diagonal (r + 1) (c + 1) n

-- from column c of the first row, as far as the grid goes
abbrev pub diagonal_means : ℕ → Shape → Meaning
diagonal_means c s = up_to_127 c (Ok (map cell_at (diagonal 0 c (min s.rows (s.columns - c)))))

-- what is left once a diagonal has come to a row and a column
abbrev pub cells_left : DiagonalIter → List Entity
cells_left x = map cell_at (diagonal x.rows.start x.columns.start (min (x.rows.end - x.rows.start) (x.columns.end - x.columns.start)))
