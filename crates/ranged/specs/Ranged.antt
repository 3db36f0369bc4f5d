-- What the selectors over ranges mean, and the frame.
use Rattle.std.specs.Prelude.{◌≡◌, ℕ, ◌+◌, ◌-◌, ◌<◌, Bool, ◌||◌, ◌⊎◌, List, map, Ok, Err, filter, Result, ◌==◌}
use Rattle.std.specs.List.{range_with_len}
use Rattle.grid.specs.declared.shape.Shape.{Shape}
use Rattle.std.specs.declared.ops.Bound.{Bound}
use Rattle.grid.specs.declared.entity.Entity.{Entity}
use Rattle.grid.specs.declared.entity.Entity.TheVariants.{Global}
use Rattle.grid.specs.declared.refusal.Refusal.{Refusal}
use Rattle.grid.specs.Cursors.{remaining}
use Rattle.grid.specs.Positions.{Coordinates, ListsExactly, positions_of, sector, cell_at}
use Rattle.grid.specs.Ranges.{resolved}
use Rattle.object.specs.Meanings.{Meaning}
use Rattle.ranged.specs.declared.frame.FrameIter.{FrameIter}
use Rattle.ranged.specs.declared.segment.SectorIter.{SectorIter}
use Rattle.ranged.specs.declared.span.SpanIter.{SpanIter}

-- a start and an end
abbrev pub Bounds : Type 0
Bounds = Bound ℕ × Bound ℕ

-- a range that is refused is the selector's refusal
abbrev pub over : {X : Type 0} → Result X Refusal → (X → Meaning) → Meaning
over (Err e) means = Err e
over (Ok x) means = means x

-- the numbers from the first of a pair up to its second, which is left out
abbrev pub numbers : ℕ × ℕ → List ℕ
numbers p = range_with_len p.0 (p.1 - p.0)

-- the lines with a number of a pair
abbrev pub lines : (ℕ → Entity) → ℕ × ℕ → List Entity
lines line p = map line (numbers p)

-- the lines with a number of the range, where a shape has so many
abbrev pub span_means : (ℕ → Entity) → Bounds → ℕ → Meaning
span_means line range count = over (resolved range.0 range.1 count) (λ p. Ok (lines line p))

-- the cells of two resolved ranges, row by row
abbrev pub sector_of : Result ((ℕ × ℕ) × (ℕ × ℕ)) Refusal → Meaning
sector_of r = over r (λ p. Ok (map cell_at (sector p.0 p.1)))

-- each row of the one range with each column of the other, row by row
abbrev pub segment_means : Bounds → Bounds → Shape → Meaning
segment_means rows columns s =
    over (resolved rows.0 rows.1 s.rows)
    (λ p. over (resolved columns.0 columns.1 s.columns) (λ q. Ok (map cell_at (sector p q))))

-- in the first or last row, or in the first or last column
abbrev pub is_on_edge : Shape → Coordinates → Bool
is_on_edge s p = (p.0 == 0 || p.0 + 1 == s.rows) || (p.1 == 0 || p.1 + 1 == s.columns)

-- those of some positions that lie on the edge, in their order
abbrev pub edge_of : Shape → List Coordinates → List Coordinates
edge_of s ps = filter (is_on_edge s) ps

-- the cells of the grid that lie on its edge, row by row
abbrev pub frame_means : Shape → Meaning
frame_means s = Ok (map cell_at (edge_of s (positions_of s Global)))

abbrev pub OnEdge : Shape → ℕ → ℕ → Type 0
OnEdge s a b = ((a ≡ 0) ⊎ (a + 1 ≡ s.rows)) ⊎ ((b ≡ 0) ⊎ (b + 1 ≡ s.columns))

-- the list has just the positions on the edge of the grid, row by row
abbrev pub ListsFrame : Shape → List Coordinates → Type 0
ListsFrame s = ListsExactly (λ a b. (a < s.rows) × (b < s.columns) × OnEdge s a b)

-- what a cursor has still to list
abbrev pub span_left : {A : Type 0} → (ℕ → Entity) → SpanIter A → List Entity
span_left line s = lines line (s.numbers.start, s.numbers.end)

abbrev pub sector_left : SectorIter → List Entity
sector_left s = map cell_at (remaining s.positions)

abbrev pub frame_left : FrameIter → List Entity
frame_left s = map cell_at (edge_of s.shape (remaining s.positions))
