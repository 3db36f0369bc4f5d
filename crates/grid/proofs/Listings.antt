-- Which positions an entity has, and in which order.
use Rattle.std.proofs.Common.{◌≡◌, ℕ, zero, suc, ◌+◌, ◌-◌, ◌<◌, ◌≤◌, min, true, false, cond, not, ◌&&◌, ◌||◌, eqb, List, [], ◌∷◌, ◌++◌, Decides, sym, refl, ap, ◌∙◌, inl, inr, ⊎_elim, arith}
use Rattle.std.proofs.Math.Bool.{or_assoc}
use Rattle.std.proofs.Math.Nat.{eq-or-lt_of_le}
use native.Mathlib.Nat.{min-le_left, min-le_right, le-min}
use Rattle.std.proofs.lemmas.Bool.{false≢true, eq-eqb, or_cases, or_left, or_right, and_parts, and_from}
use Rattle.std.proofs.lemmas.Bool.Decides.{Decides-like, Decides-and, Decides-or, Decides-not, Decides-eqb, Decides-at}
use Rattle.grid.specs.declared.shape.Shape.{Shape}
use Rattle.grid.specs.declared.entity.Entity.{Entity}
use Rattle.grid.specs.declared.entity.Entity.TheVariants.{Global, Row, Column, Cell}
use Rattle.grid.specs.Positions.{Coordinates, same, line, block, is_empty, is_small, covered, positions_of, member, LiesIn, Before, InRowOrder, Lists, sector, InRange, ListsSector}

pub member-append : (p : Coordinates) (xs ys : List Coordinates) → member p (xs ++ ys) ≡ (member p xs || member p ys)
member-append p [] ys = refl
member-append p (x ∷ xs) ys = ap (λ t. same p x || t) (member-append p xs ys) ∙ sym (or_assoc (same p x) (member p xs) (member p ys))

decides_same : (a b r c : ℕ) → Decides (same (a, b) (r, c)) ((a ≡ r) × (b ≡ c))
decides_same a b r c = Decides-and (eqb a r) (eqb b c) (Decides-eqb a r) (Decides-eqb b c)

abbrev InLine : ℕ → ℕ → ℕ → ℕ → ℕ → Type 0
InLine r c m a b = (a ≡ r) × (c ≤ b) × (b < c + m)

in_line : (a b r c m : ℕ) → Decides (member (a, b) (line r c m)) (InLine r c m a b)
in_line a b r c zero = (λ e. absurd (false≢true e), λ h. absurd (omega arith))
in_line a b r c (suc m) =
    Decides-like (same (a, b) (r, c) || member (a, b) (line r (c + 1) m))
    (⊎_elim (λ h. (h.0, omega (arith, h.1), omega (arith, h.1))) (λ h. (h.0, omega (arith, h.1), omega (arith, h.2))))
    (λ h. ⊎_elim (λ e. inl (h.0, sym e)) (λ n. inr (h.0, omega (arith, n), omega (arith, h.2))) (eq-or-lt_of_le h.1))
    (Decides-or (same (a, b) (r, c)) (member (a, b) (line r (c + 1) m)) (decides_same a b r c) (in_line a b r (c + 1) m))

abbrev InBlock : ℕ → ℕ → ℕ → ℕ → ℕ → ℕ → Type 0
InBlock r n c m a b = (r ≤ a) × (a < r + n) × (c ≤ b) × (b < c + m)

pub in_block : (a b r n c m : ℕ) → Decides (member (a, b) (block r n c m)) (InBlock r n c m a b)
in_block a b r zero c m = (λ e. absurd (false≢true e), λ h. absurd (omega arith))
in_block a b r (suc n) c m =
    Decides-at (member (a, b) (block r (suc n) c m)) _ (member-append (a, b) (line r c m) (block (r + 1) n c m))
    (Decides-like (member (a, b) (line r c m) || member (a, b) (block (r + 1) n c m))
    (⊎_elim
    (λ h. (omega (arith, h.0), omega (arith, h.0), h.1, h.2))
    (λ h. (omega (arith, h.0), omega (arith, h.1), h.2, h.3)))
    (λ h. ⊎_elim (λ e. inl (sym e, h.2, h.3)) (λ n. inr (omega (arith, n), omega (arith, h.1), h.2, h.3)) (eq-or-lt_of_le h.0))
    (Decides-or _ _ (in_line a b r c m) (in_block a b (r + 1) n c m)))

pub same_self : (p : Coordinates) → same p p ≡ true
same_self p = and_from _ _ (eq-eqb p.0 p.0 refl) (eq-eqb p.1 p.1 refl)

pub order_append : (xs ys : List Coordinates) → InRowOrder xs → InRowOrder ys
    → ((p q : Coordinates) → member p xs ≡ true → member q ys ≡ true → Before p q) → InRowOrder (xs ++ ys)
order_append [] ys ox oy apart = oy
order_append (x ∷ xs) ys ox oy apart = (
  (λ q e. ⊎_elim (ox.0 q) (apart x q (or_left (same x x) (member x xs) (same_self x))) (or_cases (member q xs) (member q ys) (sym (member-append q xs ys) ∙ e))),
  order_append xs ys ox.1 oy (λ p q mp mq. apart p q (or_right (same p x) (member p xs) mp) mq),
)

order_line : (r c m : ℕ) → InRowOrder (line r c m)
order_line r c zero = tt
order_line r c (suc m) =
    ((λ q e. let h = (in_line q.0 q.1 r (c + 1) m).0 e in inr (sym h.0, omega (arith, h.1))), order_line r (c + 1) m)

pub order_block : (r n c m : ℕ) → InRowOrder (block r n c m)
order_block r zero c m = tt
order_block r (suc n) c m =
    order_append (line r c m) (block (r + 1) n c m) (order_line r c m) (order_block (r + 1) n c m)
    (λ p q mp mq. let h = (in_line p.0 p.1 r c m).0 mp in let k = (in_block q.0 q.1 (r + 1) n c m).0 mq in inl (omega (arith, h.0, k.0)))

in_range : (x y n k : ℕ) → (x ≤ n) × (n < x + (k - x)) → k ≡ min y 128 → InRange (x, y) n
in_range x y n k h e = (h.0, omega (arith, h.0, h.1, min-le_left y 128), omega (arith, h.0, h.1, min-le_right y 128))

-- the list that means a sector is the sector's, row by row
pub lists_sector : (rows columns : ℕ × ℕ) → ListsSector rows columns (sector rows columns)
lists_sector rows columns =
    let n = min rows.1 128 in
    let m = min columns.1 128 in
    record {
      exactly = λ a b.
          Decides-like (member (a, b) (sector rows columns))
          (λ h. (in_range rows.0 rows.1 a n (h.0, h.1) refl, in_range columns.0 columns.1 b m (h.2, h.3) refl))
          (λ h. let i = h.0 in let j = h.1 in (i.0, below rows.0 rows.1 a i, j.0, below columns.0 columns.1 b j))
          (in_block a b rows.0 (n - rows.0) columns.0 (m - columns.0));
      ordered = order_block rows.0 (n - rows.0) columns.0 (m - columns.0);
    }
  where
    below : (x y k : ℕ) → InRange (x, y) k → k < x + (min y 128 - x)
    below x y k h = omega (arith, h.0, le-min h.1 h.2)

in_covered : (s : Shape) (e : Entity) (a b : ℕ) → Decides (member (a, b) (covered s e)) (LiesIn s e a b)
in_covered s Global a b =
    Decides-like _ (λ h. (omega (arith, h.1), omega (arith, h.3))) (λ h. (omega arith, omega (arith, h.0), omega arith, omega (arith, h.1)))
    (in_block a b 0 s.rows 0 s.columns)
in_covered s (Row r) a b =
    Decides-like _ (λ h. (omega (arith, h.0, h.1), omega (arith, h.3))) (λ h. (omega (arith, h.0), omega (arith, h.0), omega arith, omega (arith, h.1)))
    (in_block a b r 1 0 s.columns)
in_covered s (Column c) a b =
    Decides-like _ (λ h. (omega (arith, h.1), omega (arith, h.2, h.3))) (λ h. (omega arith, omega (arith, h.0), omega (arith, h.1), omega (arith, h.1)))
    (in_block a b 0 s.rows c 1)
in_covered s (Cell r c) a b =
    Decides-like _ (λ h. (omega (arith, h.0, h.1), omega (arith, h.2, h.3))) (λ h. (omega (arith, h.0), omega (arith, h.0), omega (arith, h.1), omega (arith, h.1)))
    (in_block a b r 1 c 1)

order_covered : (s : Shape) (e : Entity) → InRowOrder (covered s e)
order_covered s Global = order_block 0 s.rows 0 s.columns
order_covered s (Row r) = order_block r 1 0 s.columns
order_covered s (Column c) = order_block 0 s.rows c 1
order_covered s (Cell r c) = order_block r 1 c 1

not_empty : (s : Shape) → Decides (not (is_empty s)) ((0 < s.rows) × (0 < s.columns))
not_empty s =
    Decides-like (not (is_empty s))
    (λ h. (above s.rows (λ e. h (inl e)), above s.columns (λ e. h (inr e))))
    (λ h. ⊎_elim (λ e. omega (arith, h.0)) (λ e. omega (arith, h.1)))
    (Decides-not (is_empty s) (Decides-or (eqb s.rows 0) (eqb s.columns 0) (Decides-eqb s.rows 0) (Decides-eqb s.columns 0)))
  where
    above : (n : ℕ) → (n ≡ 0 → ⊥) → 0 < n
    above n h = omega arith

-- the list that means an entity is the entity's, row by row
pub lists : (s : Shape) (e : Entity) → Lists s e (positions_of s e)
lists s e =
    elim (not (is_empty s) && is_small e) as (λ t. (not (is_empty s) && is_small e) ≡ t → Lists s e (cond t (covered s e) [])) [
      | true ↦ λ yes'.
          let parts = and_parts (not (is_empty s)) (is_small e) yes' in
          let some = (not_empty s).0 parts.0 in
          record {
            exactly = λ a b. Decides-like (member (a, b) (covered s e)) (λ h. (some.0, some.1, parts.1, h)) (λ h. h.3) (in_covered s e a b);
            ordered = order_covered s e;
          }
      | false ↦ λ no'.
          record {
            exactly = λ a b. (λ h. absurd (false≢true h), λ h. sym no' ∙ and_from (not (is_empty s)) (is_small e) ((not_empty s).1 (h.0, h.1)) h.2);
            ordered = tt;
          }
    ] refl
