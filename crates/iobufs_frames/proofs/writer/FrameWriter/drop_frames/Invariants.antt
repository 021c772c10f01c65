use Rattle.std.proofs.Common.{◌≡◌, ◌≤◌, length, drop}
use Rattle.iobufs_frames.specs.Streams.{unsent_bytes, unsent_frames}
use Rattle.iobufs_frames.specs.Unsent.{ArePassed}
use Rattle.iobufs_frames.proofs.writer.FrameWriter.drop_frames.Given as goal

-- the frames before `rest` are dropped, and `left` bytes more go
abbrev pub invariant-loop-left : goal.invariant-loop-left
invariant-loop-left g l = record {
  within : l.left ≤ length (unsent_bytes l.self);
  bytes : drop l.left (unsent_bytes l.self) ≡ drop l.fn.n (unsent_bytes l.fn.self);
  passed : ArePassed (unsent_frames l.fn.self) l.self.rest l.self.more;
  same : l.self ≡ record l.fn.self { rest = l.self.rest; more = l.self.more };
}

abbrev pub decreases-loop-left : goal.decreases-loop-left
decreases-loop-left g l = length l.self.more
