use Rattle.iobufs_owner.proofs.Base.{sound-frozen_counted, refl, edit}
use Rattle.iobufs_owner.proofs.owner.Machine.freeze_counted.Goals as goal

pub invariant_of-self : goal.invariant_of-self
invariant_of-self c = edit c.self.invariant refl (rw c.frozen.ensures
    (sound-frozen_counted _ c.args.h c.args.x c.args.r c.self.invariant.sound (rw (← c.self.view_is) at c.requires.lent) c.requires.word))
