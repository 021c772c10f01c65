use Rattle.std.proofs.Common.{◌≡◌, length}
use Rattle.iobufs_frames.specs.Frames.{AreMoved, bodies}
use Rattle.iobufs_frames.proofs.Frames.move_frames.Given as goal

-- the frames that went over so far follow those of before
abbrev pub invariant-loop-end : goal.invariant-loop-end
invariant-loop-end l = record {
  moved : AreMoved l.fn.self.layout l.range (bodies l.fn.found.items) l.fn.self.rest.bytes (bodies l.found.items) l.self.rest.bytes;
  same : l.self.layout ≡ l.fn.self.layout;
}

abbrev pub decreases-loop-end : goal.decreases-loop-end
decreases-loop-end l = length l.self.rest.bytes
