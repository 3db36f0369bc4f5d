-- The positions of entities on a shape.
use Rattle.std.specs.Prelude.{◌≡◌, ℕ, zero, suc, ◌+◌, ◌-◌, ◌<◌, ◌≤◌, min, Bool, true, false, cond, not, ◌&&◌, ◌||◌, ◌⊎◌, List, [], ◌∷◌, ◌++◌, Decides, ◌==◌, nat_lt}
use Rattle.grid.specs.declared.shape.Shape.{Shape}
use Rattle.grid.specs.declared.position.Position.{Position}
use Rattle.grid.specs.declared.entity.Entity.{Entity}
use Rattle.grid.specs.declared.entity.Entity.TheVariants.{Global, Row, Column, Cell}

-- a row and a column
abbrev pub Coordinates : Type 0
Coordinates = ℕ × ℕ

abbrev pub coordinates : Position → Coordinates
coordinates p = (p.row, p.column)

abbrev pub same : Coordinates → Coordinates → Bool
same p q = p.0 == q.0 && p.1 == q.1

-- the m columns of row r that begin with c, left to right
abbrev pub line : ℕ → ℕ → ℕ → List Coordinates
line r c zero = []
line r c (suc m) = (r, c) ∷ line r (c + 1) m

-- the n rows that begin with r, row by row, each in the m columns that begin with c
abbrev pub block : ℕ → ℕ → ℕ → ℕ → List Coordinates
block r zero c m = []
block r (suc n) c m = line r c m ++ block (r + 1) n c m

abbrev pub is_empty : Shape → Bool
is_empty s = s.rows == 0 || s.columns == 0

-- the cell at a position
abbrev pub cell_at : Coordinates → Entity
cell_at p = Cell p.0 p.1

-- no number of the entity is above 127
abbrev pub is_small : Entity → Bool
is_small Global = true
is_small (Row r) = nat_lt r 128
is_small (Column c) = nat_lt c 128
is_small (Cell r c) = nat_lt r 128 && nat_lt c 128

-- The positions with a row of the one range and a column of the other, row by row. A range is its first number and
-- the one after its last; no position has a number above 127.
abbrev pub sector : ℕ × ℕ → ℕ × ℕ → List Coordinates
sector rows columns = block rows.0 (min rows.1 128 - rows.0) columns.0 (min columns.1 128 - columns.0)

-- all of the grid, a row from the first column to the last, a column from the first row to the last, one cell
abbrev pub covered : Shape → Entity → List Coordinates
covered s Global = block 0 s.rows 0 s.columns
covered s (Row r) = block r 1 0 s.columns
covered s (Column c) = block 0 s.rows c 1
covered s (Cell r c) = block r 1 c 1

-- A row, a column or a cell may lie outside the shape, but nothing has a position on an empty shape,
-- and no position has a number above 127.
abbrev pub positions_of : Shape → Entity → List Coordinates
positions_of s e = cond (not (is_empty s) && is_small e) (covered s e) []

abbrev pub member : Coordinates → List Coordinates → Bool
member p [] = false
member p (q ∷ qs) = same p q || member p qs

-- row a and column b lie in the entity, on a shape that has rows and columns
abbrev pub LiesIn : Shape → Entity → ℕ → ℕ → Type 0
LiesIn s Global a b = (a < s.rows) × (b < s.columns)
LiesIn s (Row r) a b = (a ≡ r) × (b < s.columns)
LiesIn s (Column c) a b = (a < s.rows) × (b ≡ c)
LiesIn s (Cell r c) a b = (a ≡ r) × (b ≡ c)

-- an earlier row, or the same row and an earlier column
abbrev pub Before : Coordinates → Coordinates → Type 0
Before p q = (p.0 < q.0) ⊎ ((p.0 ≡ q.0) × (p.1 < q.1))

-- row by row, and so none twice
abbrev pub InRowOrder : List Coordinates → Type 0
InRowOrder [] = Unit {0}
InRowOrder (p ∷ ps) = ((q : Coordinates) → member q ps ≡ true → Before p q) × InRowOrder ps

-- the list has just the positions with a row and a column of which P holds, row by row
pub record ListsExactly (P : ℕ → ℕ → Type 0) (ps : List Coordinates) : Type 0 where
  pub exactly : (a b : ℕ) → Decides (member (a, b) ps) (P a b)
  pub ordered : InRowOrder ps

-- just the positions of the entity
abbrev pub Lists : Shape → Entity → List Coordinates → Type 0
Lists s e = ListsExactly (λ a b. (0 < s.rows) × (0 < s.columns) × (is_small e ≡ true) × LiesIn s e a b)

abbrev pub InRange : ℕ × ℕ → ℕ → Type 0
InRange range n = (range.0 ≤ n) × (n < range.1) × (n < 128)

-- just the positions of the sector
abbrev pub ListsSector : ℕ × ℕ → ℕ × ℕ → List Coordinates → Type 0
ListsSector rows columns = ListsExactly (λ a b. InRange rows a × InRange columns b)
