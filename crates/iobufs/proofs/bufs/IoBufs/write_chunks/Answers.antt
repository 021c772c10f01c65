use Rattle.iobufs.proofs.CallerFacts.{length-advanced}
use Rattle.iobufs.proofs.bufs.IoBufs.write_chunks.Goals as goal

pub returns-clause-count : goal.returns-clause-count
returns-clause-count g c =
    length-advanced c.args.self.now c.advance.new.self c.in_ok-n.n c.in_ok-n.ensures.bound c.advance.ensures
