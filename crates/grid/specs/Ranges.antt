-- What a range names: the numbers from its first up to, and without, its end.
use Rattle.std.specs.Prelude.{ℕ, Bool, true, false, cond, ◌&&◌, Ok, Err, Result, nat_le}
use Rattle.std.specs.declared.ops.Bound.{Bound}
use Rattle.std.specs.declared.ops.Bound.TheVariants.{Included, Excluded, Unbounded}
use Rattle.std.specs.Range.Bound.{start_index, end_index}
use Rattle.grid.specs.declared.refusal.Refusal.{Refusal}
use Rattle.grid.specs.declared.refusal.Refusal.TheVariants.{OutOfRange, StartExcluded}

abbrev pub is_excluded : Bound ℕ → Bool
is_excluded (Included x) = false
is_excluded (Excluded x) = true
is_excluded Unbounded = false

-- an excluded start is refused, and then a number above 128: an included end is so at most 127
abbrev pub resolved : Bound ℕ → Bound ℕ → ℕ → Result (ℕ × ℕ) Refusal
resolved start end n =
    cond (is_excluded start) (Err StartExcluded)
    (cond (nat_le (start_index start) 128 && nat_le (end_index end n) 128) (Ok (start_index start, end_index end n)) (Err OutOfRange))
