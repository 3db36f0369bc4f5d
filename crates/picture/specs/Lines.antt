-- Text cut at a byte, and cut into lines.
use Rattle.std.specs.Prelude.{◌≡◌, ℕ, ◌<◌, ◌⊎◌, List, [], ◌∷◌, ◌++◌, length, Some, None, Option, ◌≢◌, slice_index}
use Rattle.std.specs.Borrow.{Bor}

-- the byte does not stand in the text
abbrev pub Without : ℕ → List ℕ → Type 0
Without byte text = (k : ℕ) → k < length text → slice_index text k ≢ byte

-- the text is a front without the byte, the byte, and what stands behind it
pub record Cut (byte : ℕ) (text front behind : List ℕ) : Type 0 where
  pub first : Without byte front
  pub joined : text ≡ front ++ byte ∷ behind

-- A line goes to the first line end, which is byte 10, and the text goes on behind that;
-- the last line may lack its line end, and an empty text has no line.
abbrev pub FirstLine : List ℕ → Option (Bor (List ℕ)) → List ℕ → Type 0
FirstLine text None rest = (text ≡ []) × (rest ≡ [])
FirstLine text (Some line) rest =
    Cut 10 text line.now rest ⊎ (Without 10 text × (0 < length text) × (line.now ≡ text) × (rest ≡ []))
