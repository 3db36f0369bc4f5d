-- The numbers of a range, one by one.
use Rattle.std.proofs.Common.{◌≡◌, ℕ, suc, [], ◌∷◌, ◌+◌, ◌-◌, ◌<◌, ◌≤◌, ap, arith}
use Rattle.std.specs.List.{range_with_len}
use Rattle.ranged.specs.Ranged.{numbers}

pub numbers_none : (a b : ℕ) → b ≤ a → numbers (a, b) ≡ []
numbers_none a b h = let n : b - a ≡ 0 = omega arith in ap (range_with_len a) n

pub numbers_first : (a b : ℕ) → a < b → numbers (a, b) ≡ a ∷ numbers (a + 1, b)
numbers_first a b h = let n : b - a ≡ suc (b - (a + 1)) = omega arith in ap (range_with_len a) n
