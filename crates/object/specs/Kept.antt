-- What a test keeps of a list of positions.
use Rattle.std.specs.Prelude.{◌≡◌, Bool, true, false, ◌&&◌, ◌||◌, List, [], ◌∷◌, filter, refl}
use Rattle.std.proofs.Common.{sym, ap, ◌∙◌}
use Rattle.std.proofs.Math.Bool.{and-false}
use Rattle.std.proofs.lemmas.Bool.{true≢false, false≢true, and_parts, cond_both, eqb-true}
use Rattle.grid.specs.Positions.{Coordinates, same, member, InRowOrder}

pub same_is : (p q : Coordinates) → same p q ≡ true → p ≡ q
same_is p q e =
    let parts = and_parts _ _ e in
    ap (λ r. (r, p.1)) (eqb-true p.0 q.0 parts.0) ∙ ap (λ c. (q.0, c)) (eqb-true p.1 q.1 parts.1)

-- a position is kept exactly where it is in the list and passes the test
pub member_kept : (f : Coordinates → Bool) (p : Coordinates) (ps : List Coordinates) → member p (filter f ps) ≡ (f p && member p ps)
member_kept f p [] = sym (and-false (f p))
member_kept f p (q ∷ qs) =
    cond_both (f q) (q ∷ filter f qs) (filter f qs) (λ xs. member p xs ≡ (f p && (same p q || member p qs)))
    (λ e. passes (f p) (same p q) (member p qs) _ (member_kept f p qs) (λ h. ap f (same_is p q h) ∙ e))
    (λ e. fails (f p) (same p q) (member p qs) _ (member_kept f p qs) (λ h. ap f (same_is p q h) ∙ e))
  where
    passes : (t s m k : Bool) → k ≡ (t && m) → (s ≡ true → t ≡ true) → (s || k) ≡ (t && (s || m))
    passes true true m k ih h = refl
    passes true false m k ih h = ih
    passes false true m k ih h = absurd (false≢true (h refl))
    passes false false m k ih h = ih

    fails : (t s m k : Bool) → k ≡ (t && m) → (s ≡ true → t ≡ false) → k ≡ (t && (s || m))
    fails true true m k ih h = absurd (true≢false (h refl))
    fails true false m k ih h = ih
    fails false true m k ih h = ih
    fails false false m k ih h = ih

-- the order stays
pub order_kept : (f : Coordinates → Bool) (ps : List Coordinates) → InRowOrder ps → InRowOrder (filter f ps)
order_kept f [] h = tt
order_kept f (p ∷ ps) h =
    cond_both (f p) (p ∷ filter f ps) (filter f ps) InRowOrder
    (λ _. ((λ q e. h.0 q (and_parts (f q) (member q ps) (sym (member_kept f q ps) ∙ e)).1), order_kept f ps h.1))
    (λ _. order_kept f ps h.1)
