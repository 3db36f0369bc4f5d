-- What a search answers.
use Rattle.std.specs.Prelude.{Option, MatchOption}

-- something that fits, or none where nothing does
abbrev pub Finds : {X : Type 0} → (X → Type 0) → Option X → Type 0
Finds Fits found = MatchOption found ((x : _) → Fits x → ⊥) Fits
