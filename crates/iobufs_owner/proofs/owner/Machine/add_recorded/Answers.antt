use Rattle.iobufs_owner.proofs.Base.{◌≡◌, length, arith, length-append}
use Rattle.iobufs_owner.proofs.Soundness.{sound-recorded}
use Rattle.iobufs_owner.proofs.owner.Machine.add_recorded.Goals as goal

pub invariant_of-self : goal.invariant_of-self
invariant_of-self c =
    let good = rw (← c.self.view_is) at c.requires.place in
    let word = rw (← c.self.view_is) at c.requires.word in
    let n : c.len-number.result ≡ length c.self.inside.blocks.items = omega (arith, c.len-number.ensures) in
    record {
      sound = rw (c.push_reserved-3.ensures.items, c.push_reserved-2.ensures.items, c.push_reserved.ensures.items, n)
          (sound-recorded _ c.args.block c.args.x c.self.invariant.sound good word c.requires.lies c.requires.native
          (omega (arith, c.in_ok-room_for_block.ensures.few, c.in_ok-room_for_handle.ensures.few, c.in_ok-room_for_record.ensures.few))
          (omega (arith, c.in_ok-room_for_block.ensures.few, c.in_ok-room_for_handle.ensures.few, c.in_ok-room_for_record.ensures.few))
          (omega (arith, c.in_ok-room_for_block.ensures.few, c.in_ok-room_for_handle.ensures.few, c.in_ok-room_for_record.ensures.few)));
      block_room = rw (c.push_reserved.ensures.items, length-append)
          (omega (arith, c.in_ok-room_for_block.ensures.freed_room));
      record_room = rw (c.push_reserved-2.ensures.items, length-append) (omega (arith, c.in_ok-room_for_record.ensures.freed_room));
      lent_room = rw c.push_reserved-3.ensures.capacity c.self.invariant.lent_room;
    }
