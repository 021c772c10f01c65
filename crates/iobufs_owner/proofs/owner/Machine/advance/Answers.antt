use Rattle.iobufs_owner.proofs.Base.{sound-advanced, refl, edit}
use Rattle.iobufs_owner.proofs.owner.Machine.advance.Goals as goal

pub invariant_of-self : goal.invariant_of-self
invariant_of-self c =
    let t = rw (← c.self.view_is) at c.in-Ok.ensures.lends in
    edit c.self.invariant refl
    (rw c.saturating_sub.ensures (sound-advanced _ c.args.h c.in-Ok.x c.args.n c.self.invariant.sound t.at t.free c.if-n-x.false))
