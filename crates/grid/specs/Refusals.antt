-- The number of each refusal.
use Rattle.std.specs.Prelude.{ℕ}
use Rattle.grid.specs.declared.refusal.Refusal.{Refusal}
use Rattle.grid.specs.declared.refusal.Refusal.TheVariants.{OutOfRange, StartExcluded, BadMark, ShortTable, NoSuchPlace, PastLast, OutsideShape, NotOpen}

abbrev pub number_of : Refusal → ℕ
number_of OutOfRange = 1
number_of StartExcluded = 2
number_of BadMark = 3
number_of ShortTable = 4
number_of NoSuchPlace = 5
number_of PastLast = 6
number_of OutsideShape = 7
number_of NotOpen = 8
