-- What shows the two laws of a selector: no number above 127, and no position twice.
use Rattle.std.specs.Prelude.{◌≡◌, ℕ, zero, suc, ◌+◌, ◌<◌, true, false, List, [], ◌∷◌, ◌++◌, map, Some, None, Option, Ok, Err, Result, ◌≢◌, nat_lt, refl}
use Rattle.std.proofs.Common.{sym, ap, subst, ◌∙◌, ⊎_elim, append-nil, arith}
use Rattle.std.specs.List.{range_with_len, AllByRecursion}
use Rattle.std.proofs.lemmas.Bool.{both_ways, false_from_ne_true, or_cases, or_left, or_right, or_from, or_parts, and_from, lt-ltb, ltb-true, cond_both}
use Rattle.std.proofs.ByRecursion.{All-map}
use Rattle.grid.specs.declared.shape.Shape.{Shape}
use Rattle.grid.specs.declared.entity.Entity.{Entity}
use Rattle.grid.specs.declared.entity.Entity.TheVariants.{Row, Column}
use Rattle.grid.specs.declared.refusal.Refusal.{Refusal}
use Rattle.grid.specs.declared.refusal.Refusal.TheVariants.{OutOfRange}
use Rattle.grid.specs.Positions.{Coordinates, same, member, positions_of, Before, InRowOrder, is_small, cell_at}
use Rattle.grid.proofs.Listings.{member-append, lists, same_self}
use Rattle.object.specs.Meanings.{Meaning, entities, at_most_one, positions, Bounded, Distinct}
use Rattle.object.specs.Cells.{up_to_127, cell_meant, position_meant}

never_before_itself : (p : Coordinates) → Before p p → ⊥
never_before_itself p = ⊎_elim (λ h. omega arith) (λ h. omega (arith, h.1))

-- row by row, none comes twice
pub distinct_ordered : (ps : List Coordinates) → InRowOrder ps → Distinct ps
distinct_ordered [] h = tt
distinct_ordered (p ∷ ps) h = (false_from_ne_true (member p ps) (λ e. never_before_itself p (h.0 p e)), distinct_ordered ps h.1)

pub distinct_positions : (s : Shape) (e : Entity) → Distinct (positions_of s e)
distinct_positions s e = distinct_ordered (positions_of s e) (lists s e).ordered

pub distinct_append : (xs ys : List Coordinates) → Distinct xs → Distinct ys
    → ((p : Coordinates) → member p xs ≡ true → member p ys ≢ true) → Distinct (xs ++ ys)
distinct_append [] ys dx dy apart = dy
distinct_append (x ∷ xs) ys dx dy apart = (
  member-append x xs ys ∙ or_from (member x xs) (member x ys) dx.0 (false_from_ne_true (member x ys) (apart x (or_left (same x x) (member x xs) (same_self x)))),
  distinct_append xs ys dx.1 dy (λ p e. apart p (or_right (same p x) (member p xs) e)),
)

-- one entity has no position twice
pub distinct_single : (s : Shape) (e : Entity) → Distinct (positions s (e ∷ []))
distinct_single s e = subst Distinct (sym (append-nil (positions_of s e))) (distinct_positions s e)

-- no element comes twice
abbrev pub Apart : {X : Type 0} → List X → Type 0
Apart [] = Unit {0}
Apart (x ∷ xs) = AllByRecursion (λ y. x ≢ y) xs × Apart xs

-- Entities that are made of one thing each, where a position in one of them tells what that one was made of.
module _ {X : Type 0} (s : Shape) (make : X → Entity) (of : Coordinates → X)
    (tells : (x : X) (p : Coordinates) → member p (positions_of s (make x)) ≡ true → of p ≡ x) where
  one_of : (x : X) (xs : List X) (p : Coordinates) → AllByRecursion (λ y. x ≢ y) xs → of p ≡ x → member p (positions s (map make xs)) ≢ true
  one_of x [] p apart is e = both_ways false refl e
  one_of x (y ∷ ys) p apart is e =
      ⊎_elim (λ h. apart.0 (sym is ∙ tells y p h)) (one_of x ys p apart.1 is)
      (or_cases (member p (positions_of s (make y))) (member p (positions s (map make ys))) (sym (member-append p (positions_of s (make y)) (positions s (map make ys))) ∙ e))

  -- they share no position, if they were made of different things
  pub distinct_each : (xs : List X) → Apart xs → Distinct (positions s (map make xs))
  distinct_each [] apart = tt
  distinct_each (x ∷ xs) apart =
      distinct_append (positions_of s (make x)) (positions s (map make xs)) (distinct_positions s (make x)) (distinct_each xs apart.1)
      (λ p e. one_of x xs p apart.0 (tells x p e))

pub row_tells : (s : Shape) (r : ℕ) (p : Coordinates) → member p (positions_of s (Row r)) ≡ true → p.0 ≡ r
row_tells s r p e = (((lists s (Row r)).exactly p.0 p.1).0 e).3.0

pub column_tells : (s : Shape) (c : ℕ) (p : Coordinates) → member p (positions_of s (Column c)) ≡ true → p.1 ≡ c
column_tells s c p e = (((lists s (Column c)).exactly p.0 p.1).0 e).3.1

apart_from : (x a n : ℕ) → x < a → AllByRecursion (λ y. x ≢ y) (range_with_len a n)
apart_from x a zero h = tt
apart_from x a (suc n) h = ((λ e. omega arith), apart_from x (a + 1) n (omega arith))

-- numbers that go up
pub apart_counting : (a n : ℕ) → Apart (range_with_len a n)
apart_counting a zero = tt
apart_counting a (suc n) = (apart_from a (a + 1) n (omega arith), apart_counting (a + 1) n)

-- each element of a list whose positions are distinct is another one
all_other : (p : Coordinates) (ps : List Coordinates) → member p ps ≡ false → AllByRecursion (λ q. p ≢ q) ps
all_other p [] h = tt
all_other p (q ∷ qs) h =
    let parts = or_parts (same p q) (member p qs) h in
    ((λ e. both_ways (same p q) parts.0 (subst (λ t. same p t ≡ true) e (same_self p))), all_other p qs parts.1)

pub apart_distinct : (ps : List Coordinates) → Distinct ps → Apart ps
apart_distinct [] h = tt
apart_distinct (p ∷ ps) h = (all_other p ps h.0, apart_distinct ps h.1)

pub cell_tells : (s : Shape) (q p : Coordinates) → member p (positions_of s (cell_at q)) ≡ true → p ≡ q
cell_tells s q p e =
    let h = (((lists s (cell_at q)).exactly p.0 p.1).0 e).3 in ap (λ r. (r, p.1)) h.0 ∙ ap (λ c. (q.0, c)) h.1

-- what is listed meets both laws on a shape
abbrev pub Lawful : Shape → Meaning → Type 0
Lawful s m = Bounded (entities m) × Distinct (positions s (entities m))

-- one entity
pub one : (s : Shape) (e : Entity) → is_small e ≡ true → Lawful s (Ok (e ∷ []))
one s e h = ((h, tt), distinct_single s e)

-- no number of an entity that may be refused is above 127
abbrev pub Small : Result (Option Entity) Refusal → Type 0
Small m = Bounded (entities (at_most_one m))

-- one entity or none has no position twice, so a refusal, an entity or nothing meets both laws where no number is above 127
pub lawful_at_most_one : (s : Shape) (m : Result (Option Entity) Refusal) → Small m → Lawful s (at_most_one m)
lawful_at_most_one s (Err e) h = (tt, tt)
lawful_at_most_one s (Ok None) h = (tt, tt)
lawful_at_most_one s (Ok (Some e)) h = one s e h.0

-- what holds of a refusal, and of a meaning where the number is in range, holds of both together
pub up_to : {X : Type 0} (P : Result X Refusal → Type 0) (n : ℕ) (m : Result X Refusal) → P (Err OutOfRange) → (n < 128 → P m) → P (up_to_127 n m)
up_to P n m refused h = cond_both (nat_lt n 128) m (Err OutOfRange) P (λ e. h (ltb-true n 128 e)) (λ _. refused)

pub small_position : (p : Coordinates) → p.0 < 128 → p.1 < 128 → Small (position_meant p)
small_position p h k = (and_from _ _ (lt-ltb p.0 128 h) (lt-ltb p.1 128 k), tt)

pub small_cell : (r c : ℕ) → Small (cell_meant r c)
small_cell r c = up_to Small r _ tt (λ h. up_to Small c _ tt (λ k. small_position (r, c) h k))

-- cells, each at another position
pub each_cell : (s : Shape) (ps : List Coordinates) → AllByRecursion (λ p. is_small (cell_at p) ≡ true) ps → Distinct ps → Lawful s (Ok (map cell_at ps))
each_cell s ps small apart = (
  All-map (λ e. is_small e ≡ true) cell_at ps small,
  distinct_each s cell_at (λ p. p) (cell_tells s) ps (apart_distinct ps apart),
)
