use Rattle.iobufs_owner.proofs.Base.{◌≡◌, length, length-append, arith, Mut}
use Rattle.iobufs_owner.proofs.Soundness.{sound-promoted}
use Rattle.iobufs_owner.proofs.owner.Machine.promote.Goals as goal

pub invariant_of-self : goal.invariant_of-self
invariant_of-self c =
    let t = rw (← c.self.view_is) at c.requires.lent in
    let o = rw (← c.self.view_is) at c.owned-block.ensures.owner in
    let r : c.len-r.result ≡ length c.self.inside.records.items = omega (arith, c.len-r.ensures) in
    record {
      sound = rw (c.frozen.ensures, c.push_reserved.ensures.items, r)
          (sound-promoted _ c.args.h c.args.x c.args.word _ Mut c.self.invariant.sound t c.requires.word o
          (omega (arith, c.in_ok-room_for_record.ensures.few)));
      block_room = c.self.invariant.block_room;
      record_room = rw (c.push_reserved.ensures.items, length-append) (omega (arith, c.in_ok-room_for_record.ensures.freed_room));
      lent_room = c.self.invariant.lent_room;
    }
