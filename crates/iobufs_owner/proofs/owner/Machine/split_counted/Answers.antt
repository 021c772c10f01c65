use Rattle.iobufs_owner.proofs.Base.{arith, length-set, counted-at, count-small, refl, still, now}
use Rattle.iobufs_owner.proofs.Soundness.{sound-split_counted}
use Rattle.iobufs_owner.proofs.owner.Machine.split_counted.Goals as goal

pub overflow_add-record : goal.overflow_add-record
overflow_add-record c =
    let k = now c.self.invariant c.self.view_is in
    let f = counted-at _ c.args.h c.args.x c.args.r k c.requires.lent.at c.requires.word in
    rw c.record-record.ensures (omega (arith, count-small _ c.args.r k f.live f.shown))

pub invariant_of-self : goal.invariant_of-self
invariant_of-self c =
    let e = rw (← c.self.view_is) at c.record-record.ensures in
    still c.self.invariant refl (length-set _ _ _) refl refl c.push_reserved.ensures.capacity refl
    (rw (e, c.push_reserved.ensures.items, c.part.ensures, c.part-2.ensures)
    (sound-split_counted _ c.args.h c.args.r c.args.at c.args.x c.self.invariant.sound
    (rw (← c.self.view_is) at c.requires.lent) c.requires.word c.requires.within (rw e at c.if-record-self.false)
    (omega (arith, c.in_ok-room_for_handle.ensures.few))))
