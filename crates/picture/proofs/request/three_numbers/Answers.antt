use Rattle.picture.proofs.Sayings.{unspaced, unspaced_rest, first_number, other_numbers}
use Rattle.picture.proofs.request.three_numbers.Goals as goal

pub returns-in_err-first : goal.returns-in_err-first
returns-in_err-first c = rw c.from_residual.ensures (λ t. unspaced c.in_err-first.ensures t.0 t.1 t.2)

pub returns-in_err-second : goal.returns-in_err-second
returns-in_err-second c = rw c.from_residual-in_err-second.ensures (λ t. unspaced_rest c.in_ok-first.ensures c.in_err-second.ensures t.0 t.1 t.2)

pub returns-in_err-number : goal.returns-in_err-number
returns-in_err-number c =
    rw c.from_residual-in_err-number.ensures (λ t s. c.in_err-number.ensures t.0 (first_number c.in_ok-first.ensures s))

pub returns-in_err-number-2 : goal.returns-in_err-number-2
returns-in_err-number-2 c =
    rw c.from_residual-in_err-number-2.ensures
    (λ t s. c.in_err-number-2.ensures t.1 (other_numbers c.in_ok-first.ensures c.in_ok-second.ensures s).0)

pub returns-in_err-number-3 : goal.returns-in_err-number-3
returns-in_err-number-3 c =
    rw c.from_residual-in_err-number-3.ensures
    (λ t s. c.in_err-number-3.ensures t.2 (other_numbers c.in_ok-first.ensures c.in_ok-second.ensures s).1)
