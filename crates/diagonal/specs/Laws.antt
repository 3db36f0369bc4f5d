-- The two laws of a diagonal.
use Rattle.std.specs.Prelude.{◌≡◌, ℕ, zero, suc, ◌+◌, ◌-◌, ◌≤◌, min, true}
use Rattle.std.proofs.Common.{ap, inl, ⊎_elim, arith}
use Rattle.std.proofs.Math.Nat.{min-le_left, min-le_right}
use Rattle.std.specs.List.{AllByRecursion}
use Rattle.std.proofs.lemmas.Bool.{false≢true, and_from, lt-ltb, or_cases}
use Rattle.grid.specs.declared.shape.Shape.{Shape}
use Rattle.grid.specs.Positions.{Coordinates, same, member, is_small, InRowOrder, cell_at}
use Rattle.object.specs.Kept.{same_is}
use Rattle.object.specs.Laws.{Lawful, up_to, each_cell, distinct_ordered}
use Rattle.diagonal.specs.Diagonals.{diagonal, diagonal_means}

all_small : (r c n : ℕ) → r + n ≤ 128 → c + n ≤ 128 → AllByRecursion (λ p. is_small (cell_at p) ≡ true) (diagonal r c n)
all_small r c zero h k = tt
all_small r c (suc n) h k = (and_from _ _ (lt-ltb r 128 (omega arith)) (lt-ltb c 128 (omega arith)), all_small (r + 1) (c + 1) n (omega arith) (omega arith))

not_above : (q : Coordinates) (r c n : ℕ) → member q (diagonal r c n) ≡ true → r ≤ q.0
not_above q r c zero e = absurd (false≢true e)
not_above q r c (suc n) e =
    ⊎_elim (λ h. let is = ap (λ (t : Coordinates). t.0) (same_is q (r, c) h) in omega (arith, is)) (λ h. omega (arith, not_above q (r + 1) (c + 1) n h)) (or_cases (same q (r, c)) (member q (diagonal (r + 1) (c + 1) n)) e)

ordered : (r c n : ℕ) → InRowOrder (diagonal r c n)
ordered r c zero = tt
ordered r c (suc n) = ((λ q e. inl (omega (arith, not_above q (r + 1) (c + 1) n e))), ordered (r + 1) (c + 1) n)

pub lawful : (c : ℕ) (s : Shape) → Lawful s (diagonal_means c s)
lawful c s =
    let n = min s.rows (s.columns - c) in
    up_to (Lawful s) c _ (tt, tt)
    (λ h. each_cell s (diagonal 0 c n)
    (all_small 0 c n (omega (arith, min-le_left s.rows (s.columns - c), s.tall)) (omega (arith, min-le_right s.rows (s.columns - c), s.wide)))
    (distinct_ordered (diagonal 0 c n) (ordered 0 c n)))
