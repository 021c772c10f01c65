use Rattle.std.proofs.Common.{◌≡◌, [], false, length}
use Rattle.iobufs.specs.Sending.{IsSent}
use Rattle.iobufs_frames.specs.Streams.{unsent_bytes, unsent_frames}
use Rattle.iobufs_frames.specs.Unsent.{ArePassed}
use Rattle.iobufs_frames.proofs.writer.FrameWriter.send.Given as goal

abbrev pub invariant-loop-self : goal.invariant-loop-self
invariant-loop-self g l = record {
  sent : IsSent (g.W.Write.contents l.fn.self.to) (g.W.Write.contents l.self.to) (unsent_bytes l.fn.self) (unsent_bytes l.self);
  passed : ArePassed (unsent_frames l.fn.self) l.self.rest l.self.more;
  settled : l.self.rest.bytes ≡ [] → l.self.more ≡ [];
  flushed : l.self.is_flushed ≡ false;
  layout : l.self.layout ≡ l.fn.self.layout;
  range : l.self.range ≡ l.fn.self.range;
}

abbrev pub decreases-loop-self : goal.decreases-loop-self
decreases-loop-self g l = length (unsent_bytes l.self)
