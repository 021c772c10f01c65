use Rattle.iobufs_owner.proofs.Base.{arith, edit}
use Rattle.iobufs_owner.proofs.Soundness.{sound-split_empty}
use Rattle.iobufs_owner.proofs.owner.Machine.split_empty.Goals as goal

pub invariant_of-self : goal.invariant_of-self
invariant_of-self c = edit c.self.invariant c.push_reserved.ensures.capacity
    (rw (c.push_reserved.ensures.items, c.part.ensures, c.part-2.ensures)
    (sound-split_empty _ c.args.h c.args.at c.args.x c.self.invariant.sound
    (rw (← c.self.view_is) at c.requires.lent) c.requires.word c.requires.within (omega (arith, c.in_ok-room_for_handle.ensures.few))))
