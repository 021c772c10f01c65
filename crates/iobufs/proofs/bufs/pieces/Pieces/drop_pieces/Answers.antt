use Rattle.iobufs.proofs.Text.{arith, pieced-as, right-full}
use Rattle.iobufs.proofs.bufs.pieces.Pieces.drop_pieces.Goals as goal

pub settle-requires : goal.settle-requires
settle-requires c =
    let full = (pieced-as c.in-Many.is c.self.invariant).1 in
    (right-full c.in-Many.row.views _ c.args.n full (omega (arith, c.if-n-len.true, c.len.ensures.value)) c.drop_front.ensures).1
