use Rattle.iobufs_owner.proofs.Base.{State, state_of, refl, still}
use Rattle.iobufs_owner.proofs.Soundness.{quiet-none, quiet-loaded, sound-called, loaded-fits}
use Rattle.iobufs_owner.proofs.owner.Machine.load.Goals as goal

pub invariant_of-self : goal.invariant_of-self
invariant_of-self c =
    let s : State = state_of c.self.inside in
    let q = rw (← c.self.view_is) at c.requires in
    rw c.set.ensures (still c.self.invariant refl refl refl refl refl refl
    (sound-called s c.args.thread _ c.self.invariant.sound q.there (rw q.idle (quiet-none s)) (quiet-loaded s c.args.range c.args.word)
    (loaded-fits s c.args.range c.args.x c.args.word c.self.invariant.sound q.fits c.requires.word)))
