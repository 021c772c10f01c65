use Rattle.iobufs.proofs.CallerFacts.{rest_on, sent_on}
use Rattle.iobufs.proofs.bufs.IoBufs.write_to.Goals as goal

pub loop-self-preserved : goal.loop-self-preserved
loop-self-preserved g c =
    let contents = g.W.Write.contents in
    let l = c.loop-self in
    let new = c.write_chunks.new in record {
      sent = sent_on (contents c.args.to.now) (contents l.to) (contents new.to) c.args.self.now.bytes l.self.bytes new.self.bytes
          l.invariant.sent c.write_chunks.ensures.sent;
      rest = rest_on c.args.self.now l.self new.self c.in_ok-write_chunks.field-0 l.invariant.rest c.in_ok-write_chunks.ensures.left;
    }
