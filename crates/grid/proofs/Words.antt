-- One bit of a table of words.
use Rattle.std.proofs.Common.{◌≡◌, ℕ, ◌/◌, ◌%◌, ◌*◌, ◌^◌, ◌<◌, ◌≤◌, false, ◌||◌, eqb, List, length, get_or, set, replicate, sym, ap, ◌∙◌, ⊎_elim, arith, bit_and, bit_or, w64}
use Rattle.std.specs.Int.{bit_at}
use Rattle.std.proofs.lemmas.Nat.Bits.{shr_and_one, bit_at_set_same, bit_at_set_other, bit_at-zero}
use Rattle.std.proofs.lemmas.List.{get_or-set_same, get_or-set_other, get_or-replicate, get_or_past, length-replicate}
use Rattle.std.proofs.lemmas.Bool.{cases_eq, cases_lt, eq-eqb, ne_eqb}
use Rattle.grid.specs.declared.bits.BitTable.{BitTable}
use Rattle.grid.specs.Bits.{bit}

-- a word with bit k set, as the code sets it
abbrev set_bit : ℕ → ℕ → ℕ
set_bit w k = bit_or w (1 * 2 ^ k % 2 ^ 64)

-- what a word holds once bit k is set
with_bit : (w k j : ℕ) → k < 64 → eqb (bit_at (set_bit w k) j) 1 ≡ (eqb j k || eqb (bit_at w j) 1)
with_bit w k j small =
    ⊎_elim
    (λ e. ap (λ i. eqb (bit_at (set_bit w k) i) 1) e ∙ ap (λ x. eqb x 1) (bit_at_set_same w64 w k small) ∙ sym (ap (λ b. b || eqb (bit_at w j) 1) (eq-eqb j k e)))
    (λ ne. ap (λ x. eqb x 1) (bit_at_set_other w64 w k small j ne) ∙ sym (ap (λ b. b || eqb (bit_at w j) 1) (ne_eqb j k ne)))
    (cases_eq j k)

-- what a table holds once bit n is set
pub bit_set : (t u : BitTable) (n m : ℕ) → n / 64 < length t.words
    → u.words ≡ set t.words (n / 64) (bit_or (get_or t.words (n / 64) 0) (1 * 2 ^ (n % 64) % 2 ^ 64))
    → bit u m ≡ (eqb m n || bit t m)
unfolding bit
bit_set t u n m inside set_is =
    ap (λ ws. eqb (bit_at (get_or ws (m / 64) 0) (m % 64)) 1) set_is ∙ ⊎_elim
    (λ e. ap (λ w. eqb (bit_at w (m % 64)) 1)
    (ap (λ i. get_or (set words (n / 64) (set_bit (get_or words (n / 64) 0) (n % 64))) i 0) e
    ∙ get_or-set_same words (n / 64) _ 0 inside ∙ ap (λ i. set_bit (get_or words i 0) (n % 64)) (sym e))
    ∙ with_bit (get_or words (m / 64) 0) (n % 64) (m % 64) (omega arith)
    ∙ ap (λ b. b || eqb (bit_at (get_or words (m / 64) 0) (m % 64)) 1) (same_word e))
    (λ ne. ap (λ w. eqb (bit_at w (m % 64)) 1) (get_or-set_other words (n / 64) (m / 64) _ 0 ne)
    ∙ ap (λ b. b || eqb (bit_at (get_or words (m / 64) 0) (m % 64)) 1) (sym (ne_eqb m n (λ e. ne (ap (λ i. i / 64) e)))))
    (cases_eq (m / 64) (n / 64))
  where
    words : List ℕ
    words = t.words

    same_word : m / 64 ≡ n / 64 → eqb (m % 64) (n % 64) ≡ eqb m n
    same_word e =
        ⊎_elim (λ f. eq-eqb (m % 64) (n % 64) (ap (λ i. i % 64) f) ∙ sym (eq-eqb m n f))
        (λ nf. ne_eqb (m % 64) (n % 64) (λ f. nf (omega arith)) ∙ sym (ne_eqb m n nf))
        (cases_eq m n)

-- one bit, as a word is shifted and masked to read it
pub bit_read : (t : BitTable) (n : ℕ) → eqb (bit_and (get_or t.words (n / 64) 0 / 2 ^ (n % 64)) 1) 1 ≡ bit t n
unfolding bit
bit_read t n = ap (λ x. eqb x 1) (shr_and_one (get_or t.words (n / 64) 0) (n % 64))

pub no_bit : (t : BitTable) → t.words ≡ replicate 256 0 → (n : ℕ) → bit t n ≡ false
unfolding bit
no_bit t blank n =
    ap (λ ws. eqb (bit_at (get_or ws (n / 64) 0) (n % 64)) 1) blank
    ∙ ap (λ w. eqb (bit_at w (n % 64)) 1)
    (⊎_elim (get_or-replicate 256 (n / 64) 0 0) (λ (h : 256 ≤ n / 64). get_or_past (replicate 256 0) (n / 64) 0 (simp length-replicate h)) (cases_lt (n / 64) 256))
    ∙ ap (λ x. eqb x 1) (bit_at-zero (n % 64))
