-- What a line asks for.
use Rattle.std.specs.Prelude.{◌≡◌, ℕ, ◌+◌, ◌-◌, ◌*◌, ◌<◌, ◌≤◌, ◌≢◌, List, ◌∷◌, ◌++◌, length, fold, slice_index, Result, MatchResult}
use Rattle.grid.specs.declared.refusal.Refusal.{Refusal}
use Rattle.grid.specs.declared.refusal.Refusal.TheVariants.{OutOfRange}
use Rattle.picture.specs.declared.request.Choice.{Choice}
use Rattle.picture.specs.declared.request.Choice.TheVariants.{FirstRow, LastColumn, AllButOne, TwoCells, PastLastRow, InnerCells}
use Rattle.picture.specs.declared.request.Request.{Request}

abbrev pub choice_number : Choice → ℕ
choice_number FirstRow = 1
choice_number LastColumn = 2
choice_number AllButOne = 3
choice_number TwoCells = 4
choice_number PastLastRow = 5
choice_number InnerCells = 6

-- the choice with this number; where no choice has it, the number is out of range
abbrev pub Chooses : ℕ → Result Choice Refusal → Type 0
Chooses number r = MatchResult r (λ k. choice_number k ≡ number) (λ e. (e ≡ OutOfRange) × ((k : Choice) → choice_number k ≢ number))

-- the number that decimal digits write; the digit 0 is byte 48
abbrev pub decimal : List ℕ → ℕ
decimal digits = fold (λ n d. n * 10 + (d - 48)) 0 digits

-- one to three bytes, each a digit, write the number n
pub record Numeral (digits : List ℕ) (n : ℕ) : Type 0 where
  pub some : 1 ≤ length digits
  pub few : length digits ≤ 3
  pub from_0 : (k : ℕ) → k < length digits → 48 ≤ slice_index digits k
  pub to_9 : (k : ℕ) → k < length digits → slice_index digits k ≤ 57
  pub value : n ≡ decimal digits

-- the line is the digits of three numbers with single spaces, which are byte 32, between them
pub record Says (line : List ℕ) (a b c : ℕ) : Type 0 where
  pub first : List ℕ
  pub second : List ℕ
  pub third : List ℕ
  pub joined : line ≡ first ++ 32 ∷ (second ++ 32 ∷ third)
  pub first_writes : Numeral first a
  pub second_writes : Numeral second b
  pub third_writes : Numeral third c

-- the line says the rows and the columns of the shape, at most 32 of each, and the number of the choice
pub record Asks (line : List ℕ) (request : Request) : Type 0 where
  pub says : Says line request.shape.rows request.shape.columns (choice_number request.choice)
  pub tall : request.shape.rows ≤ 32
  pub wide : request.shape.columns ≤ 32
