use Rattle.std.proofs.Common.{◌-◌, ◌^◌, length}
use Rattle.iobufs_frames.proofs.StreamLaws.{Waits}
use Rattle.iobufs_frames.proofs.reader.FrameReader.next.Given as goal

-- no frame was taken so far
abbrev pub invariant-loop-body : goal.invariant-loop-body
invariant-loop-body g l = Waits g.R.Read.remaining l.fn.self l.self

-- no more bytes are held than a length can say
abbrev pub decreases-loop-body : goal.decreases-loop-body
decreases-loop-body g l = 2 ^ 64 - length l.self.held.bytes
