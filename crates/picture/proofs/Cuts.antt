-- Text cut at a byte.
use Rattle.std.proofs.Common.{◌≡◌, ℕ, suc, List, [], ◌∷◌, ◌++◌, length, get_or, refl, ap, ◌∙◌, arith}
use Rattle.std.proofs.lemmas.List.{get_or_at, length-append}
use Rattle.picture.specs.Lines.{Without}

without_first : (byte x : ℕ) (xs : List ℕ) → Without byte (x ∷ xs) → x ≡ byte → ⊥
without_first byte x xs w e = w 0 (omega arith) e

without_rest : (byte x : ℕ) (xs : List ℕ) → Without byte (x ∷ xs) → Without byte xs
without_rest byte x xs w k h e = w (suc k) (omega arith) e

-- a text can be cut in one way only
pub same_cut : (byte : ℕ) (f g b d : List ℕ) → Without byte f → Without byte g → f ++ byte ∷ b ≡ g ++ byte ∷ d → (f ≡ g) × (b ≡ d)
same_cut byte [] [] b d v w e = (refl, cc)
same_cut byte [] (y ∷ g) b d v w e = let h : y ≡ byte = cc in absurd (without_first byte y g w h)
same_cut byte (x ∷ f) [] b d v w e = let h : x ≡ byte = cc in absurd (without_first byte x f v h)
same_cut byte (x ∷ f) (y ∷ g) b d v w e =
    let h : x ≡ y = cc in
    let t : f ++ byte ∷ b ≡ g ++ byte ∷ d = cc in
    let p = same_cut byte f g b d (without_rest byte x f v) (without_rest byte y g w) t in
    (ap (λ z. z ∷ f) h ∙ ap (λ zs. y ∷ zs) p.0, p.1)

-- a text without the byte cannot be cut
pub no_cut : (byte : ℕ) (text f b : List ℕ) → Without byte text → text ≡ f ++ byte ∷ b → ⊥
no_cut byte text f b w e =
    w (length f) (omega (arith, ap length e, length-append f (byte ∷ b))) (ap (λ xs. get_or xs (length f) 0) e ∙ get_or_at f byte b 0 (length f) refl)
