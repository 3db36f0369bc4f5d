-- No number of the entity that these selectors list is above 127.
use Rattle.std.specs.Prelude.{◌≡◌, ℕ, ◌+◌, ◌-◌, ◌<◌, ◌≤◌, true, Some, None, Ok, Err, ◌==◌, nat_lt}
use Rattle.std.proofs.Common.{arith}
use Rattle.std.proofs.lemmas.Bool.{ltb-true, cond_both}
use Rattle.grid.specs.declared.shape.Shape.{Shape}
use Rattle.grid.specs.declared.entity.Entity.{Entity}
use Rattle.grid.specs.declared.refusal.Refusal.TheVariants.{PastLast}
use Rattle.grid.specs.Positions.{is_empty, is_small}
use Rattle.object.specs.Laws.{Small, up_to}
use Rattle.single.specs.declared.offset.Offset.{Offset}
use Rattle.single.specs.declared.offset.Offset.TheVariants.{Plus, Minus}
use Rattle.single.specs.Singles.{nth_meant, unless_empty, first_meant, last_meant, from_last, named, rows_counted}

pub few_counted_rows : (s : Shape) → rows_counted s ≤ 128
few_counted_rows s = cond_both (is_empty s) 0 s.rows (λ n. n ≤ 128) (λ _. omega arith) (λ _. s.tall)

pub small_unless_empty : (s : Shape) (e : Entity) → is_small e ≡ true → Small (unless_empty s e)
small_unless_empty s e h = cond_both (is_empty s) None (Some e) (λ o. Small (Ok o)) (λ _. tt) (λ _. (h, tt))

module _ (line : ℕ → Entity) (small : (n : ℕ) → n < 128 → is_small (line n) ≡ true) where
  pub small_nth : (n : ℕ) → Small (nth_meant line n)
  small_nth n = up_to Small n _ tt (λ h. (small n h, tt))

  pub small_first : (s : Shape) → Small (first_meant line s)
  small_first s = small_unless_empty s (line 0) (small 0 (omega arith))

  pub small_last : (count : ℕ) → count ≤ 128 → (s : Shape) → Small (last_meant line count s)
  small_last count h s = small_unless_empty s (line (count - 1)) (small (count - 1) (omega arith))

  pub small_from_last : (n : ℕ) → n ≤ 128 → (o : Offset) → Small (named line (from_last n o))
  small_from_last n h (Plus k) =
      up_to (λ r. Small (named line r)) k _ tt
      (λ _. cond_both (n == 0) (Ok None) _ (λ r. Small (named line r)) (λ _. tt)
      (λ _. cond_both (nat_lt (n - 1 + k) 128) _ (Err PastLast) (λ r. Small (named line r))
      (λ e. (small (n - 1 + k) (ltb-true (n - 1 + k) 128 e), tt)) (λ _. tt)))
  small_from_last n h (Minus k) =
      up_to (λ r. Small (named line r)) k _ tt
      (λ _. cond_both (nat_lt k n) (Some (n - 1 - k)) None (λ m. Small (named line (Ok m)))
      (λ e. (small (n - 1 - k) (omega (arith, ltb-true k n e)), tt)) (λ _. tt))
