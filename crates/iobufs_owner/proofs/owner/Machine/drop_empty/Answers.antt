use Rattle.iobufs_owner.proofs.Base.{refl, edit}
use Rattle.iobufs_owner.proofs.Soundness.{sound-gone_empty}
use Rattle.iobufs_owner.proofs.owner.Machine.drop_empty.Goals as goal

pub invariant_of-self : goal.invariant_of-self
invariant_of-self c =
    let t = rw (← c.self.view_is) at c.requires.lent in
    edit c.self.invariant refl (sound-gone_empty _ c.args.h c.args.x c.self.invariant.sound t.at t.free c.requires.word)
