use Rattle.iobufs.proofs.Text.{AreViews, AreViews-advanced, advanced-kept, arith, length-kept, subst, sym}
use Rattle.iobufs.proofs.bufs.reading.IoBufsBuf.advance.Goals as goal

pub advance-requires : goal.advance-requires
advance-requires c = omega (arith, c.requires, length-kept c.self.inside _ c.self.view_is)

pub invariant_of-self : goal.invariant_of-self
invariant_of-self c = subst AreViews (sym c.advance.ensures.left) (AreViews-advanced _ _ c.self.invariant)

pub returns : goal.returns
returns c =
    advanced-kept c.self.inside.pieces _ c.args.self.now c.args.n c.self.view_is c.advance.ensures.pieces
    (omega (arith, c.requires, length-kept c.self.inside _ c.self.view_is)) c.advance.ensures.left
