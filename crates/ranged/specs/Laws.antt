-- The two laws of the selectors over ranges, and of the frame.
use Rattle.std.specs.Prelude.{◌≡◌, ℕ, zero, suc, ◌+◌, ◌-◌, ◌<◌, ◌≤◌, true, ◌&&◌, List, [], ◌∷◌, map, IfOk, Ok, Err, Result, nat_le}
use Rattle.std.proofs.Common.{arith}
use Rattle.std.specs.List.{range_with_len, AllByRecursion}
use Rattle.std.proofs.lemmas.Bool.{leb-true, and_parts, or_left, or_right, cond_both}
use Rattle.std.proofs.ByRecursion.{All-map, All-weaker, all_kept_by}
use Rattle.grid.specs.declared.shape.Shape.{Shape}
use Rattle.std.specs.declared.ops.Bound.{Bound}
use Rattle.std.specs.Range.Bound.{start_index, end_index}
use Rattle.grid.specs.declared.entity.Entity.{Entity}
use Rattle.grid.specs.declared.entity.Entity.TheVariants.{Global}
use Rattle.grid.specs.declared.refusal.Refusal.{Refusal}
use Rattle.grid.specs.declared.refusal.Refusal.TheVariants.{OutOfRange, StartExcluded}
use Rattle.grid.specs.Positions.{Coordinates, same, member, is_small, positions_of, sector}
use Rattle.grid.specs.Ranges.{is_excluded, resolved}
use Rattle.grid.proofs.Listings.{same_self, lists, lists_sector}
use Rattle.object.specs.Meanings.{Meaning}
use Rattle.object.specs.Laws.{Lawful, small_position, distinct_each, distinct_ordered, apart_counting, each_cell}
use Rattle.object.specs.Kept.{order_kept}
use Rattle.ranged.specs.Ranged.{Bounds, over, numbers, span_means, segment_means, is_on_edge, edge_of, frame_means}

-- a range that is resolved ends at 128 at most
abbrev Ended : Result (ℕ × ℕ) Refusal → Type 0
Ended r = IfOk r (λ p. p.1 ≤ 128)

ended : (a b : Bound ℕ) (n : ℕ) → Ended (resolved a b n)
ended a b n =
    cond_both (is_excluded a) (Err StartExcluded) _ Ended (λ _. tt)
    (λ _. cond_both (nat_le (start_index a) 128 && nat_le (end_index b n) 128) (Ok (start_index a, end_index b n)) (Err OutOfRange) Ended
    (λ e. leb-true (end_index b n) 128 (and_parts (nat_le (start_index a) 128) (nat_le (end_index b n) 128) e).1) (λ _. tt))

lawful_over : (s : Shape) (r : Result (ℕ × ℕ) Refusal) (means : ℕ × ℕ → Meaning) → Ended r → ((p : ℕ × ℕ) → p.1 ≤ 128 → Lawful s (means p)) → Lawful s (over r means)
lawful_over s (Err e) means h each = (tt, tt)
lawful_over s (Ok p) means h each = each p h

-- entities of numbers that go up
module _ (s : Shape) (make : ℕ → Entity) (of : Coordinates → ℕ)
    (tells : (n : ℕ) (p : Coordinates) → member p (positions_of s (make n)) ≡ true → of p ≡ n)
    (small : (n : ℕ) → n < 128 → is_small (make n) ≡ true) where
  numbered : (p : ℕ × ℕ) → p.1 ≤ 128 → Lawful s (Ok (map make (numbers p)))
  numbered p h = (
    All-map (λ e. is_small e ≡ true) make (numbers p) (All-weaker (λ n. n < 128) (λ n. is_small (make n) ≡ true) small (numbers p) (below p h)),
    distinct_each s make of tells (numbers p) (apart_counting p.0 (p.1 - p.0)),
  )
    where
      below_more : (a n : ℕ) (q : ℕ) → q ≤ 128 → n ≤ q - a → AllByRecursion (λ k. k < 128) (range_with_len a n)
      below_more a zero q h k = tt
      below_more a (suc n) q h k = (omega arith, below_more (a + 1) n q h (omega arith))

      below : (p : ℕ × ℕ) → p.1 ≤ 128 → AllByRecursion (λ k. k < 128) (numbers p)
      below p h = below_more p.0 (p.1 - p.0) p.1 h (omega arith)

  pub span : (range : Bounds) (count : ℕ) → Lawful s (span_means make range count)
  span range count = lawful_over s (resolved range.0 range.1 count) _ (ended range.0 range.1 count) numbered

-- what holds of each position that a list has
all_member : (P : Coordinates → Type 0) (ps : List Coordinates) → ((p : Coordinates) → member p ps ≡ true → P p) → AllByRecursion P ps
all_member P [] h = tt
all_member P (p ∷ ps) h = (h p (or_left (same p p) (member p ps) (same_self p)), all_member P ps (λ q e. h q (or_right (same q p) (member q ps) e)))

pub segment : (rows columns : Bounds) (s : Shape) → Lawful s (segment_means rows columns s)
segment rows columns s =
    lawful_over s (resolved rows.0 rows.1 s.rows) _ (ended rows.0 rows.1 s.rows)
    (λ p _. lawful_over s (resolved columns.0 columns.1 s.columns) _ (ended columns.0 columns.1 s.columns)
    (λ q _. let is = lists_sector p q in
    each_cell s (sector p q)
    (all_member _ (sector p q) (λ t e. let h = (is.exactly t.0 t.1).0 e in (small_position t h.0.2 h.1.2).0))
    (distinct_ordered (sector p q) is.ordered)))

pub frame : (s : Shape) → Lawful s (frame_means s)
frame s =
    let grid = positions_of s Global in
    let is = lists s Global in
    each_cell s (edge_of s grid)
    (all_kept_by (is_on_edge s) _ grid
    (all_member _ grid (λ p e. let h = ((is.exactly p.0 p.1).0 e).3 in (small_position p (omega (arith, h.0, s.tall)) (omega (arith, h.1, s.wide))).0)))
    (distinct_ordered (edge_of s grid) (order_kept (is_on_edge s) grid is.ordered))
