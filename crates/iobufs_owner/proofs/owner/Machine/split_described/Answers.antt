use Rattle.iobufs_owner.proofs.Base.{◌≡◌, length, length-append, arith}
use Rattle.iobufs_owner.proofs.Soundness.{sound-split_described}
use Rattle.iobufs_owner.proofs.owner.Machine.split_described.Goals as goal

pub invariant_of-self : goal.invariant_of-self
invariant_of-self c =
    let t = rw (← c.self.view_is) at c.requires.lent in
    let o = rw (← c.self.view_is) at c.owned-block.ensures.owner in
    let r : c.len-r.result ≡ length c.self.inside.records.items = omega (arith, c.len-r.ensures) in
    record {
      sound = rw (c.push_reserved-2.ensures.items, c.part.ensures, c.part-2.ensures, c.push_reserved.ensures.items, r)
          (sound-split_described _ c.args.h c.args.word c.owned-block.result c.args.at c.args.x c.self.invariant.sound t c.requires.word o
          c.requires.within
          (omega (arith, c.in_ok-room_for_handle.ensures.few, c.in_ok-room_for_record.ensures.few))
          (omega (arith, c.in_ok-room_for_handle.ensures.few, c.in_ok-room_for_record.ensures.few)));
      block_room = c.self.invariant.block_room;
      record_room = rw (c.push_reserved.ensures.items, length-append) (omega (arith, c.in_ok-room_for_record.ensures.freed_room));
      lent_room = rw c.push_reserved-2.ensures.capacity c.self.invariant.lent_room;
    }
