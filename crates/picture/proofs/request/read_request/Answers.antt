use Rattle.std.proofs.Common.{◌≡◌, ℕ, None, Err, Option, refl, sym, ⊎_elim, arith}
use Rattle.std.specs.Option.{ok_or}
use Rattle.std.proofs.lemmas.Result.{err_from_is_err_and}
use Rattle.grid.specs.declared.refusal.Refusal.{Refusal}
use Rattle.grid.specs.declared.refusal.Refusal.TheVariants.{OutOfRange}
use Rattle.picture.proofs.Sayings.{says_one}
use Rattle.picture.proofs.request.read_request.Goals as goal

refused : (o : Option (ℕ × ℕ × ℕ)) (e : Refusal) → o ≡ None → Err e ≡ ok_or o OutOfRange → e ≡ OutOfRange
refused o e none same = cc

pub returns-in_err-rows : goal.returns-in_err-rows
returns-in_err-rows c =
    let p = err_from_is_err_and c.from_residual.result c.from_residual.ensures.1 in
    let unsaid = rw c.in_err-rows.ensures.ok_part at c.three_numbers.ensures in
    rw (p.1, p.2) (refused c.three_numbers.result _ c.in_err-rows.ensures.ok_part c.in_err-rows.ensures.value, λ q a. unsaid (_, _, _) a.says)

pub returns-then-rows-gt-MAX_PRINTED : goal.returns-then-rows-gt-MAX_PRINTED
returns-then-rows-gt-MAX_PRINTED c = (
  refl,
  λ q a.
      let said = rw c.in_ok-rows.ensures.ok_part at c.three_numbers.ensures in
      let e = says_one said a.says in
      ⊎_elim (λ h. omega (arith, e.0, a.tall)) (λ h. omega (arith, h.1, e.1, a.wide)) c.then-rows-gt-MAX_PRINTED.either,
)

pub returns-in_err-choice : goal.returns-in_err-choice
returns-in_err-choice c =
    let p = err_from_is_err_and c.from_residual-in_err-choice.result c.from_residual-in_err-choice.ensures.1 in
    let said = rw c.in_ok-rows.ensures.ok_part at c.three_numbers.ensures in
    rw (p.1, p.2) (c.in_err-choice.ensures.0, λ q a. c.in_err-choice.ensures.1 q.choice (sym (says_one said a.says).2))
