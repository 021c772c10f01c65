use Rattle.iobufs_owner.proofs.Base.{View, refl, edit, empty-at, sound-emptied}
use Rattle.iobufs_owner.proofs.owner.Machine.recover_empty.Goals as goal

pub invariant_of-self : goal.invariant_of-self
invariant_of-self c =
    let t = rw (← c.self.view_is) at c.requires.lent in
    let f = empty-at _ c.args.h c.args.x c.self.invariant.sound t.at c.requires.word in
    edit c.self.invariant refl (sound-emptied _ c.args.h c.args.x _ View c.self.invariant.sound t c.requires.word refl
    (record { no_room = refl; ends = f.ends; no_bytes = λ m. c.if-x-ne0.false }))
