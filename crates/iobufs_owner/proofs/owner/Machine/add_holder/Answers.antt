use Rattle.iobufs_owner.proofs.Base.{arith, length-set, Add, counted-at, count-small, end-small, refl, still, call-fits, now}
use Rattle.iobufs_owner.proofs.Soundness.{sound-added-call}
use Rattle.iobufs_owner.proofs.owner.Machine.add_holder.Goals as goal

pub overflow_add-record : goal.overflow_add-record
overflow_add-record c =
    let k = now c.self.invariant c.self.view_is in
    let a = call-fits _ c.args.thread (Add c.args.range c.args.r) k c.requires.call in
    let f = counted-at _ c.args.range.handle a.view c.args.r k a.shares.at a.word in
    rw c.record-record.ensures (omega (arith, count-small _ c.args.r k f.live f.shown))

pub part-requires-clause-ends : goal.part-requires-clause-ends
part-requires-clause-ends c = end-small _ c.args.range.handle c.args.x (now c.self.invariant c.self.view_is) c.requires.at

pub invariant_of-self : goal.invariant_of-self
invariant_of-self c =
    let q = rw (← c.self.view_is) at c.requires in
    let e = rw (← c.self.view_is) at c.record-record.ensures in
    rw c.set.ensures (still c.self.invariant refl (length-set _ _ _) refl refl c.push_reserved.ensures.capacity refl
    (rw (e, c.push_reserved.ensures.items, c.part.ensures)
    (sound-added-call _ c.args.thread c.args.r c.args.range c.args.x c.self.invariant.sound
    q.call q.at q.low (omega (arith, c.in_ok-room_for_handle.ensures.few)))))
