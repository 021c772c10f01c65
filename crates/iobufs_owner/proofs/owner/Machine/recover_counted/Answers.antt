use Rattle.iobufs_owner.proofs.Base.{sound-thawed_counted, refl, edit}
use Rattle.iobufs_owner.proofs.owner.Machine.recover_counted.Goals as goal

pub invariant_of-self : goal.invariant_of-self
invariant_of-self c =
    let t = rw (← c.self.view_is) at c.requires.lent in
    let e1 = rw (← c.self.view_is) at c.record-record.ensures in
    let e2 = rw (← c.self.view_is) at c.block-block.ensures in
    edit c.self.invariant refl (rw (e2, e1) (sound-thawed_counted _ c.args.h c.args.x c.args.r c.self.invariant.sound t c.requires.word
    (rw (e2, e1) at c.if-block.false) (rw e1 at c.if-record-ne1.false)))
