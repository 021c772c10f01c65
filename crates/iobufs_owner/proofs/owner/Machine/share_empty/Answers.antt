use Rattle.iobufs_owner.proofs.Base.{refl, arith, part, sound-detached, empty-at, Empty, edit}
use Rattle.iobufs_owner.proofs.owner.Machine.share_empty.Goals as goal

pub invariant_of-self : goal.invariant_of-self
invariant_of-self c =
    let sh = rw (← c.self.view_is) at c.requires.fits in
    let f = empty-at _ c.args.range.handle c.args.x c.self.invariant.sound sh.at c.requires.word in
    edit c.self.invariant c.push_reserved.ensures.capacity
    (rw (c.push_reserved.ensures.items, c.part.ensures)
    (sound-detached _ (part c.args.x c.args.range.lo c.args.range.hi Empty) c.self.invariant.sound refl
    (record { no_room = refl; ends = omega (arith, f.ends, sh.order, sh.within); no_bytes = λ m. absurd (cc) })
    (omega (arith, c.in_ok-room_for_handle.ensures.few))))
