-- One step down a diagonal.
use Rattle.std.proofs.Common.{◌≡◌, ℕ, suc, ◌+◌, ◌-◌, ◌<◌, ◌≤◌, min, [], ◌∷◌, ap, ◌∙◌, arith}
use native.Mathlib.Nat.{suc-min-suc, min-le_left, min-le_right}
use Rattle.diagonal.specs.Diagonals.{diagonal}

pub step : (row column rows columns : ℕ) → row < rows → column < columns
    → diagonal row column (min (rows - row) (columns - column)) ≡ (row, column) ∷ diagonal (row + 1) (column + 1) (min (rows - (row + 1)) (columns - (column + 1)))
step row column rows columns h k =
    let down : rows - row ≡ suc (rows - (row + 1)) = omega arith in
    let right : columns - column ≡ suc (columns - (column + 1)) = omega arith in
    ap (diagonal row column) (ap (λ n. min n (columns - column)) down ∙ ap (min (suc (rows - (row + 1)))) right ∙ suc-min-suc (rows - (row + 1)) (columns - (column + 1)))

-- no row is left, or no column
pub no_rows : (row column rows columns : ℕ) → rows ≤ row → diagonal row column (min (rows - row) (columns - column)) ≡ []
no_rows row column rows columns h =
    let n : min (rows - row) (columns - column) ≡ 0 = omega (arith, min-le_left (rows - row) (columns - column)) in ap (diagonal row column) n

pub no_columns : (row column rows columns : ℕ) → columns ≤ column → diagonal row column (min (rows - row) (columns - column)) ≡ []
no_columns row column rows columns h =
    let n : min (rows - row) (columns - column) ≡ 0 = omega (arith, min-le_right (rows - row) (columns - column)) in ap (diagonal row column) n
