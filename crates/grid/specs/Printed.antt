-- The text that refusals and entities print.
use Rattle.std.specs.Prelude.{ℕ, List, ◌++◌, decimal}
use lib.Chars.{codes}
use Rattle.grid.specs.declared.entity.Entity.{Entity}
use Rattle.grid.specs.declared.entity.Entity.TheVariants.{Global, Row, Column, Cell}
use Rattle.grid.specs.declared.refusal.Refusal.{Refusal}
use Rattle.grid.specs.Refusals.{number_of}

-- its number behind a word
abbrev pub printed_refusal : Refusal → List ℕ
printed_refusal e = codes "refused " ++ decimal (number_of e)

-- one word: all, R and a row, C and a column, or a cell's row and column
abbrev pub printed_entity : Entity → List ℕ
printed_entity Global = codes "all"
printed_entity (Row r) = codes "R" ++ decimal r
printed_entity (Column c) = codes "C" ++ decimal c
printed_entity (Cell r c) = decimal r ++ codes ":" ++ decimal c
