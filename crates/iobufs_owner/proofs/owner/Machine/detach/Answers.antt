use Rattle.iobufs_owner.proofs.Base.{Mut, refl, edit, sound-emptied, arith}
use Rattle.iobufs_owner.proofs.owner.Machine.detach.Goals as goal

pub invariant_of-self : goal.invariant_of-self
invariant_of-self c = edit c.self.invariant refl (rw c.detached.ensures
    (sound-emptied _ c.args.h c.args.x _ Mut c.self.invariant.sound (rw (← c.self.view_is) at c.requires.lent) c.requires.word refl
    (record { no_room = refl; ends = omega arith; no_bytes = λ m. refl })))
