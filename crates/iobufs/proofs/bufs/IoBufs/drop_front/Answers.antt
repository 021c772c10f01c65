use Rattle.iobufs.proofs.Text.{AreViews, AreViews-rest, arith, dropped-rest, length-kept, subst, sym}
use Rattle.iobufs.proofs.bufs.IoBufs.drop_front.Goals as goal

pub drop_front-requires-clause-inside : goal.drop_front-requires-clause-inside
drop_front-requires-clause-inside c = omega (arith, c.requires, length-kept c.self.inside _ c.self.view_is)

pub invariant_of-self : goal.invariant_of-self
invariant_of-self c = subst AreViews (sym c.drop_front.ensures) (AreViews-rest _ _ c.self.invariant)

pub returns-then-n-ne0 : goal.returns-then-n-ne0
returns-then-n-ne0 c =
    dropped-rest _ _ c.args.self.now c.args.n c.self.view_is (omega (arith, c.if-n-ne0.true))
    (omega (arith, c.requires, length-kept c.self.inside _ c.self.view_is)) c.drop_front.ensures
