use Rattle.std.proofs.Common.{length}
use Rattle.iobufs.specs.Sending.{IsRestOf, IsSent}
use Rattle.iobufs.proofs.bufs.IoBufs.write_to.Given as goal

abbrev pub invariant-loop-self : goal.invariant-loop-self
invariant-loop-self g l = record {
  sent : IsSent (g.W.Write.contents l.fn.to) (g.W.Write.contents l.to) l.fn.self.bytes l.self.bytes;
  rest : IsRestOf l.fn.self l.self;
}

abbrev pub decreases-loop-self : goal.decreases-loop-self
decreases-loop-self g l = length l.self.bytes
