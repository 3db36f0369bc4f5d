-- The picture of a sheet of a shape.
use Rattle.std.specs.Prelude.{◌≡◌, ℕ, ◌+◌, ◌*◌, ◌/◌, ◌%◌, ◌<◌, ◌≤◌, List, length, Ok, Err, Result, slice_index}
use Rattle.grid.specs.declared.refusal.Refusal.{Refusal}
use Rattle.grid.specs.declared.refusal.Refusal.TheVariants.{ShortTable}
use Rattle.grid.specs.declared.place.Place.TheVariants.{Across, Down, Point}
use Rattle.grid.specs.declared.shape.Shape.{Shape}
use Rattle.picture.specs.declared.layout.Spot.{Spot}
use Rattle.picture.specs.declared.layout.Spot.TheVariants.{Mark, Cell}

-- the sheet has the spot: an across line below its last row too, a down line right of its last column, and points at both
abbrev pub On : Shape → Spot → Type 0
On shape (Mark (Point r c)) = (r ≤ shape.rows) × (c ≤ shape.columns)
On shape (Mark (Across r c)) = (r ≤ shape.rows) × (c < shape.columns)
On shape (Mark (Down r c)) = (r < shape.rows) × (c ≤ shape.columns)
On shape (Cell r c) = (r < shape.rows) × (c < shape.columns)

-- the line and the column of the picture where a spot stands
abbrev pub line_of : Spot → ℕ
line_of (Mark (Point r c)) = 2 * r
line_of (Mark (Across r c)) = 2 * r
line_of (Mark (Down r c)) = 2 * r + 1
line_of (Cell r c) = 2 * r + 1

abbrev pub column_of : Spot → ℕ
column_of (Mark (Point r c)) = 2 * c
column_of (Mark (Across r c)) = 2 * c + 1
column_of (Mark (Down r c)) = 2 * c
column_of (Cell r c) = 2 * c + 1

abbrev pub Stands : Spot → ℕ → ℕ → Type 0
Stands s line column = (line_of s ≡ line) × (column_of s ≡ column)

-- a place shows '.', since nothing is drawn, and a cell shows 'o'
abbrev pub character_of : Spot → ℕ
character_of (Mark p) = 46
character_of (Cell r c) = 111

-- the characters of one line of the picture with its line end, and the number of lines
abbrev pub width_of : Shape → ℕ
width_of shape = 2 * shape.columns + 2

abbrev pub height_of : Shape → ℕ
height_of shape = 2 * shape.rows + 1

-- character k of the picture, counted line by line, is that of the spot there, or the line end behind the last one
pub record Shows (shape : Shape) (k character : ℕ) : Type 0 where
  pub spot : (s : Spot) → On shape s → Stands s (k / width_of shape) (k % width_of shape) → character ≡ character_of s
  pub end : k % width_of shape ≡ 2 * shape.columns + 1 → character ≡ 10

-- the text is the picture: every spot of the sheet has its character where it stands, and every line its line end
pub record Picture (shape : Shape) (text : List ℕ) : Type 0 where
  pub spots : (s : Spot) → On shape s → slice_index text (line_of s * width_of shape + column_of s) ≡ character_of s
  pub ends : (line : ℕ) → line < height_of shape → slice_index text (line * width_of shape + (2 * shape.columns + 1)) ≡ 10

-- a page that is too short is refused and stays; else the picture stands at its front, and the rest stays
abbrev pub LaidOut : Shape → List ℕ → Result ℕ Refusal → List ℕ → Type 0
LaidOut shape before (Ok n) after =
    (n ≡ height_of shape * width_of shape) × (n ≤ length before) × (length after ≡ length before) × Picture shape after
    × ((k : ℕ) → n ≤ k → slice_index after k ≡ slice_index before k)
LaidOut shape before (Err e) after = (e ≡ ShortTable) × (length before < height_of shape * width_of shape) × (after ≡ before)
