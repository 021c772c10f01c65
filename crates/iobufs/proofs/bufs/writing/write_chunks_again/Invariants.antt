use Rattle.std.specs.Io.KnownBytes.{Keeps}
use Rattle.iobufs.proofs.bufs.writing.write_chunks_again.Given as goal

-- nothing was taken so far
abbrev pub invariant-loop : goal.invariant-loop
invariant-loop g l = Keeps (g.W.Write.contents l.fn.to) (g.W.Write.contents l.to)
