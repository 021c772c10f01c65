use Rattle.std.proofs.Common.{◌-◌, ◌^◌, length}
use Rattle.iobufs_frames.proofs.StreamLaws.{Waits}
use Rattle.iobufs_frames.proofs.reader.FrameReader.next_whole.Given as goal

-- no frame was taken so far
abbrev pub invariant-loop-whole : goal.invariant-loop-whole
invariant-loop-whole g l = Waits g.R.Read.remaining l.fn.self l.self

-- no more bytes are held than a length can say
abbrev pub decreases-loop-whole : goal.decreases-loop-whole
decreases-loop-whole g l = 2 ^ 64 - length l.self.held.bytes
