use Rattle.iobufs_owner.proofs.Base.{sound-frozen_described, refl, edit}
use Rattle.iobufs_owner.proofs.Soundness.{described-ends}
use Rattle.iobufs_owner.proofs.owner.Machine.freeze_described.Goals as goal

pub with_tail-requires : goal.with_tail-requires
with_tail-requires c = (described-ends c.self.invariant c.self.view_is c.requires.lent c.requires.word).0.word

pub invariant_of-self : goal.invariant_of-self
invariant_of-self c =
    let q = c.in-Some.ensures.same in
    edit c.self.invariant refl (rw (c.frozen.ensures, q.1)
    (sound-frozen_described _ c.args.h c.args.x c.args.word c.self.invariant.sound
    (rw (← c.self.view_is) at c.requires.lent) c.requires.word q.0))
