-- Bits in words of 64.
use Rattle.std.specs.Prelude.{ℕ, ◌/◌, ◌%◌, Bool, ◌==◌, slice_index}
use Rattle.std.specs.Int.{bit_at}
use Rattle.grid.specs.declared.bits.BitTable.{BitTable}

-- bit n of the table: bit n % 64 of word n / 64
unfoldable pub bit : BitTable → ℕ → Bool
bit t n = bit_at (slice_index t.words (n / 64)) (n % 64) == 1
