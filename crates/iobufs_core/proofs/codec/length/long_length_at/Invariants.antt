use Rattle.std.specs.Prelude.{drop}
use Rattle.iobufs_core.proofs.Reading.{IsSoFar}
use Rattle.iobufs_core.proofs.codec.length.long_length_at.Given as goal

abbrev pub invariant-loop-i : goal.invariant-loop-i
invariant-loop-i g l = IsSoFar (drop l.skip (g.B.Buf.text l.buf)) l.i l.value l.place
