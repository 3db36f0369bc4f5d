-- The three numbers that a line says.
use Rattle.std.proofs.Common.{◌≡◌, ℕ, List, ◌∷◌, ◌++◌, sym, refl, ◌∙◌, subst, arith}
use Rattle.picture.specs.Lines.{Without, Cut}
use Rattle.picture.specs.Requests.{Numeral, Says}
use Rattle.picture.proofs.Cuts.{same_cut, no_cut}

numeral_without : {digits : List ℕ} {n : ℕ} → Numeral digits n → Without 32 digits
numeral_without d k h e = omega (arith, d.from_0 k h)

-- a line of three numbers has a space
pub unspaced : {line : List ℕ} → Without 32 line → (a b c : ℕ) → Says line a b c → ⊥
unspaced {line = line} w a b c s = no_cut 32 line s.first (s.second ++ 32 ∷ s.third) w s.joined

-- what stands before the first space, and behind it
before_space : {line f r : List ℕ} {a b c : ℕ} → Cut 32 line f r → (s : Says line a b c) → (f ≡ s.first) × (r ≡ s.second ++ 32 ∷ s.third)
before_space {f = f} {r = r} cut s =
    same_cut 32 f s.first r (s.second ++ 32 ∷ s.third) cut.first (numeral_without s.first_writes) (sym cut.joined ∙ s.joined)

pub first_number : {line f r : List ℕ} → Cut 32 line f r → {a b c : ℕ} → Says line a b c → Numeral f a
first_number cut {a = a} s = subst (λ x. Numeral x a) (sym (before_space cut s).0) s.first_writes

-- a line of three numbers has a second space
pub unspaced_rest : {line f r : List ℕ} → Cut 32 line f r → Without 32 r → (a b c : ℕ) → Says line a b c → ⊥
unspaced_rest {r = r} cut w a b c s = no_cut 32 r s.second s.third w (before_space cut s).1

pub other_numbers : {line f r g t : List ℕ} → Cut 32 line f r → Cut 32 r g t → {a b c : ℕ} → Says line a b c → Numeral g b × Numeral t c
other_numbers {g = g} {t = t} cut next {b = b} {c = c} s =
    let p = same_cut 32 g s.second t s.third next.first (numeral_without s.second_writes) (sym next.joined ∙ (before_space cut s).1) in
    (subst (λ x. Numeral x b) (sym p.0) s.second_writes, subst (λ x. Numeral x c) (sym p.1) s.third_writes)

same_value : {digits : List ℕ} {m n : ℕ} → Numeral digits m → Numeral digits n → m ≡ n
same_value x y = x.value ∙ sym y.value

-- a line says one triple of numbers only
pub says_one : {line : List ℕ} {a b c a' b' c' : ℕ} → Says line a b c → Says line a' b' c' → (a ≡ a') × (b ≡ b') × (c ≡ c')
says_one {line = line} s t =
    let rest = s.second ++ 32 ∷ s.third in
    let cut : Cut 32 line s.first rest = record { first = numeral_without s.first_writes; joined = s.joined } in
    let next : Cut 32 rest s.second s.third = record { first = numeral_without s.second_writes; joined = refl } in
    let others = other_numbers cut next t in
    (same_value s.first_writes (first_number cut t), same_value s.second_writes others.0, same_value s.third_writes others.1)
