-- What is left of a block, step by step.
use Rattle.std.proofs.Common.{◌≡◌, ℕ, zero, suc, ◌+◌, ◌-◌, ◌<◌, ◌≤◌, ltb, ◌⊎◌, [], ◌∷◌, ◌++◌, sym, refl, ap, ◌∙◌, ⊎_elim, arith}
use Rattle.std.proofs.lemmas.Bool.{cases_lt, lt-ltb, le-ltb, cond-true, cond-false}
use Rattle.grid.specs.Positions.{line, block}
use Rattle.grid.specs.Cursors.{rest}

pub rest_none : (row column left right bottom : ℕ) → bottom ≤ row → rest row column left right bottom ≡ []
rest_none row column left right bottom h = cond-false (ltb row bottom) _ _ (le-ltb row bottom h)

rest_some : (row column left right bottom : ℕ) → row < bottom
    → rest row column left right bottom ≡ line row column (right - column) ++ block (row + 1) (bottom - (row + 1)) left (right - left)
rest_some row column left right bottom h = cond-true (ltb row bottom) _ _ (lt-ltb row bottom h)

-- at the start of a row
pub rest_start : (top left right bottom : ℕ) → rest top left left right bottom ≡ block top (bottom - top) left (right - left)
rest_start top left right bottom =
    ⊎_elim
    (λ h. let n : bottom - top ≡ suc (bottom - (top + 1)) = omega arith in
    rest_some top left left right bottom h ∙ ap (λ k. block top k left (right - left)) (sym n))
    (λ h. let n : bottom - top ≡ 0 = omega arith in
    rest_none top left left right bottom h ∙ ap (λ k. block top k left (right - left)) (sym n))
    (cases_lt top bottom)

-- a whole block, by how many rows and columns it has
pub rest_block : (top rows left columns : ℕ) → rest top left left (left + columns) (top + rows) ≡ block top rows left columns
rest_block top rows left columns =
    let n : top + rows - top ≡ rows = omega arith in
    let m : left + columns - left ≡ columns = omega arith in
    rest_start top left (left + columns) (top + rows)
    ∙ ap (λ k. block top k left (left + columns - left)) n ∙ ap (block top rows left) m

first_of_line : (row column right : ℕ) → column < right → line row column (right - column) ≡ (row, column) ∷ line row (column + 1) (right - (column + 1))
first_of_line row column right h =
    let n : right - column ≡ suc (right - (column + 1)) = omega arith in ap (line row column) n

-- a step within the row
pub rest_along : (row column left right bottom : ℕ) → row < bottom → column + 1 < right
    → rest row column left right bottom ≡ (row, column) ∷ rest row (column + 1) left right bottom
rest_along row column left right bottom h k =
    rest_some row column left right bottom h
    ∙ ap (λ xs. xs ++ block (row + 1) (bottom - (row + 1)) left (right - left)) (first_of_line row column right (omega arith))
    ∙ ap (λ xs. (row, column) ∷ xs) (sym (rest_some row (column + 1) left right bottom h))

-- the last step of a row
pub rest_turn : (row column left right bottom : ℕ) → row < bottom → column < right → right ≤ column + 1
    → rest row column left right bottom ≡ (row, column) ∷ rest (row + 1) left left right bottom
rest_turn row column left right bottom h k last =
    let n : right - (column + 1) ≡ 0 = omega arith in
    rest_some row column left right bottom h
    ∙ ap (λ xs. xs ++ block (row + 1) (bottom - (row + 1)) left (right - left)) (first_of_line row column right k ∙ ap (λ m. (row, column) ∷ line row (column + 1) m) n)
    ∙ ap (λ xs. (row, column) ∷ xs) (sym (rest_start (row + 1) left right bottom))

-- a block without columns
pub block_narrow : (r n c : ℕ) → block r n c 0 ≡ []
block_narrow r zero c = refl
block_narrow r (suc n) c = block_narrow (r + 1) n c

-- a block whose columns end before they begin
pub no_columns : (top n left right : ℕ) → right ≤ left → [] ≡ block top n left (right - left)
no_columns top n left right h = let m : right - left ≡ 0 = omega arith in sym (ap (block top n left) m ∙ block_narrow top n left)

-- a block that ends before it begins
pub block_none : (top bottom left right : ℕ) → (bottom ≤ top) ⊎ (right ≤ left) → [] ≡ block top (bottom - top) left (right - left)
block_none top bottom left right =
    ⊎_elim
    (λ h. let n : bottom - top ≡ 0 = omega arith in sym (ap (λ k. block top k left (right - left)) n))
    (no_columns top (bottom - top) left right)
