use Rattle.iobufs_owner.proofs.Base.{length-set, refl, counted-at, still, now}
use Rattle.iobufs_owner.proofs.Soundness.{logs-room, sound-freed_counted}
use Rattle.iobufs_owner.proofs.owner.Machine.free_counted.Goals as goal

pub push_reserved-requires : goal.push_reserved-requires
push_reserved-requires c = (logs-room c.args.r c.self.invariant c.self.view_is
    (counted-at _ c.args.h c.args.x c.args.r (now c.self.invariant c.self.view_is) c.requires.lent.at c.requires.word).live).0

pub push_reserved-requires-2 : goal.push_reserved-requires-2
push_reserved-requires-2 c = (logs-room c.args.r c.self.invariant c.self.view_is
    (counted-at _ c.args.h c.args.x c.args.r (now c.self.invariant c.self.view_is) c.requires.lent.at c.requires.word).live).1

pub invariant_of-self : goal.invariant_of-self
invariant_of-self c =
    let t = rw (← c.self.view_is) at c.requires.lent in
    let e1 = rw (← c.self.view_is) at c.record-record.ensures in
    let e2 = rw (← c.self.view_is) at c.block-block.ensures in
    still c.self.invariant refl (length-set _ _ _) c.push_reserved.ensures.capacity c.push_reserved-2.ensures.capacity refl refl
    (rw (c.push_reserved.ensures.items, c.push_reserved-2.ensures.items, e2, e1)
    (sound-freed_counted _ c.args.h c.args.x c.args.r c.args.rest c.self.invariant.sound t.at t.free t.kind_is c.requires.word
    c.requires.rest))
