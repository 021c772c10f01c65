use Rattle.iobufs_owner.proofs.Base.{arith, refl, still}
use Rattle.iobufs_owner.proofs.Soundness.{sound-won}
use Rattle.iobufs_owner.proofs.owner.Machine.win.Goals as goal

pub invariant_of-self : goal.invariant_of-self
invariant_of-self c =
    let q = rw (← c.self.view_is) at c.requires in
    rw c.set.ensures (still c.self.invariant refl refl refl refl c.push_reserved.ensures.capacity refl
    (rw (c.push_reserved.ensures.items, c.part.ensures)
    (sound-won _ c.args.thread c.args.r c.args.word c.args.range c.args.x c.self.invariant.sound
    q.call q.at c.requires.word (omega (arith, c.in_ok-room_for_handle.ensures.few)))))
