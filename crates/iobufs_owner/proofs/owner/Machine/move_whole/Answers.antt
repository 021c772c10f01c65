use Rattle.iobufs_owner.proofs.Base.{arith, edit}
use Rattle.iobufs_owner.proofs.Soundness.{sound-moved}
use Rattle.iobufs_owner.proofs.owner.Machine.move_whole.Goals as goal

pub invariant_of-self : goal.invariant_of-self
invariant_of-self c = edit c.self.invariant c.push_reserved.ensures.capacity
    (rw (c.push_reserved.ensures.items, c.detached.ensures)
    (sound-moved _ c.args.h c.args.x c.self.invariant.sound (rw (← c.self.view_is) at c.requires)
    (omega (arith, c.in_ok-room_for_handle.ensures.few))))
