use Rattle.iobufs_owner.proofs.Base.{eq-eqb, ne_eqb, length-set, state_of, refl, still, now}
use Rattle.iobufs_owner.proofs.Soundness.{sound-subtracted, letting-go}
use Rattle.iobufs_owner.proofs.owner.Machine.subtract.Goals as goal

pub overflow_sub-record : goal.overflow_sub-record
overflow_sub-record c = rw c.record-record.ensures
    (letting-go _ c.args.thread c.args.r (now c.self.invariant c.self.view_is) c.requires).some

pub invariant_of-self : goal.invariant_of-self
invariant_of-self c =
    let e = rw (← c.self.view_is) at c.record-record.ensures in
    let z = eq-eqb _ 1 (rw e at c.if-record-eq1.true) in
    rw c.set.ensures (still c.self.invariant refl (length-set _ _ _) refl refl refl refl
    (rw e (rw z at (sound-subtracted (state_of c.self.inside) c.args.thread c.args.r c.self.invariant.sound
    (rw (← c.self.view_is) at c.requires)))))

pub invariant_of-self-2 : goal.invariant_of-self-2
invariant_of-self-2 c =
    let e = rw (← c.self.view_is) at c.record-record.ensures in
    let z = ne_eqb _ 1 (rw e at c.if-record-eq1.false) in
    rw c.set-2.ensures (still c.self.invariant refl (length-set _ _ _) refl refl refl refl
    (rw e (rw z at (sound-subtracted (state_of c.self.inside) c.args.thread c.args.r c.self.invariant.sound
    (rw (← c.self.view_is) at c.requires)))))
