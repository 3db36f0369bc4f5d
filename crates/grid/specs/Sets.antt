-- Sets of positions.
use Rattle.std.specs.Prelude.{◌+◌, ◌*◌, Bool, ◌&&◌, nat_lt}
use Rattle.grid.specs.declared.set.PositionSet.{PositionSet}
use Rattle.grid.specs.Positions.{Coordinates}
use Rattle.grid.specs.Bits.{bit}

-- the set has the position: its bits go row by row, 128 to a row, and no set has a position outside the 128 by 128
abbrev pub has : PositionSet → Coordinates → Bool
has s p = (nat_lt p.0 128 && nat_lt p.1 128) && bit s.bits (p.0 * 128 + p.1)
