use Rattle.std.proofs.Common.{◌≡◌, length}
use Rattle.grid.specs.Cursors.{remaining}
use Rattle.ranged.specs.Ranged.{edge_of}
use Rattle.ranged.proofs.frame.FrameIterIterator.next.Given as goal

abbrev pub invariant-loop-position : goal.invariant-loop-position
invariant-loop-position l =
    (l.self.shape ≡ l.initial.self.shape)
    × (edge_of l.self.shape (remaining l.self.positions) ≡ edge_of l.initial.self.shape (remaining l.initial.self.positions))

abbrev pub decreases-loop-position : goal.decreases-loop-position
decreases-loop-position l = length (remaining l.self.positions)
