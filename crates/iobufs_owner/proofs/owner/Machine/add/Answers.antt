use Rattle.iobufs_owner.proofs.Base.{None, Add, state_of, State, counted-at, live-inside, at-some, refl, still, call-fits}
use Rattle.iobufs_owner.proofs.Soundness.{quiet-none, quiet-add, sound-called}
use Rattle.iobufs_owner.proofs.owner.Machine.add.Goals as goal

pub record-record-requires : goal.record-record-requires
record-record-requires c =
    let a = call-fits c.args.self.now.state c.args.thread (Add c.args.range c.args.r) c.find.ensures.sound c.requires in
    live-inside _ c.args.r (counted-at _ c.args.range.handle a.view c.args.r c.find.ensures.sound a.shares.at a.word).live

pub invariant_of-self : goal.invariant_of-self
invariant_of-self c =
    let s : State = state_of c.self.inside in
    let at = rw (← c.self.view_is) at c.requires in
    rw c.set.ensures (still c.self.invariant refl refl refl refl refl refl
    (sound-called s c.args.thread None c.self.invariant.sound (at-some s.calls c.args.thread (Add c.args.range c.args.r) at)
    (rw at (quiet-add s c.args.range c.args.r)) (quiet-none s) tt))
