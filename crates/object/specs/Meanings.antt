-- What a selector means on a shape.
use Rattle.std.specs.Prelude.{◌≡◌, true, false, List, [], ◌∷◌, ◌++◌, Ok, Err, Option, Result, option_to_list}
use Rattle.std.specs.List.{AllByRecursion}
use Rattle.grid.specs.declared.shape.Shape.{Shape}
use Rattle.grid.specs.declared.entity.Entity.{Entity}
use Rattle.grid.specs.declared.refusal.Refusal.{Refusal}
use Rattle.grid.specs.Positions.{Coordinates, positions_of, is_small, member}

-- a refusal, or the entities that are listed, in their order
abbrev pub Meaning : Type 0
Meaning = Result (List Entity) Refusal

-- a selector that refuses lists nothing
abbrev pub entities : Meaning → List Entity
entities (Err e) = []
entities (Ok es) = es

-- what a test answers
abbrev pub verdict : Meaning → Result (Unit {0}) Refusal
verdict (Err e) = Err e
verdict (Ok es) = Ok tt

-- a refusal, or at most one entity
abbrev pub at_most_one : Result (Option Entity) Refusal → Meaning
at_most_one (Err e) = Err e
at_most_one (Ok e) = Ok (option_to_list e)

-- the positions of some entities on a shape, those of the first entity first
abbrev pub positions : Shape → List Entity → List Coordinates
positions s [] = []
positions s (e ∷ es) = positions_of s e ++ positions s es

-- no number of the entities is above 127
abbrev pub Bounded : List Entity → Type 0
Bounded es = AllByRecursion (λ e. is_small e ≡ true) es

-- no position comes twice
abbrev pub Distinct : List Coordinates → Type 0
Distinct [] = Unit {0}
Distinct (p ∷ ps) = (member p ps ≡ false) × Distinct ps
