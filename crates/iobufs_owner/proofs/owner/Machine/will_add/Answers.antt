use Rattle.iobufs_owner.proofs.Base.{State, state_of, refl, still}
use Rattle.iobufs_owner.proofs.Soundness.{quiet-none, quiet-add, sound-called}
use Rattle.iobufs_owner.proofs.owner.Machine.will_add.Goals as goal

pub invariant_of-self : goal.invariant_of-self
invariant_of-self c =
    let s : State = state_of c.self.inside in
    let q = rw (← c.self.view_is) at c.requires in
    rw c.set.ensures (still c.self.invariant refl refl refl refl refl refl
    (sound-called s c.args.thread _ c.self.invariant.sound q.there (rw q.idle (quiet-none s)) (quiet-add s c.args.range c.args.r)
    (record { view = c.args.x; shares = q.fits; word = c.requires.word })))
