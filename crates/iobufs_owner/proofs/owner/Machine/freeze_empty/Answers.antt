use Rattle.iobufs_owner.proofs.Base.{Mut, refl, edit, empty-at, sound-emptied}
use Rattle.iobufs_owner.proofs.owner.Machine.freeze_empty.Goals as goal

pub invariant_of-self : goal.invariant_of-self
invariant_of-self c =
    let t = rw (← c.self.view_is) at c.requires.lent in
    let f = empty-at _ c.args.h c.args.x c.self.invariant.sound t.at c.requires.word in
    edit c.self.invariant refl (rw c.frozen.ensures (sound-emptied _ c.args.h c.args.x _ Mut c.self.invariant.sound t c.requires.word refl
    (record { no_room = refl; ends = f.ends; no_bytes = λ m. absurd (cc) })))
