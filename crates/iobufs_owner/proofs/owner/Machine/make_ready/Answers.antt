use Rattle.iobufs_owner.proofs.Base.{◌≡◌, None, length, length-append, arith, Loaded, state_of, loaded_block, State, at-some, refl, still, call-fits}
use Rattle.iobufs_owner.proofs.Soundness.{quiet-none, quiet-loaded, sound-called, sound-readied}
use Rattle.iobufs_owner.proofs.owner.Machine.make_ready.Goals as goal

pub invariant_of-self : goal.invariant_of-self
invariant_of-self c =
    let s : State = state_of c.self.inside in
    let at = rw (← c.self.view_is) at c.requires in
    rw c.set.ensures (still c.self.invariant refl refl refl refl refl refl
    (sound-called s c.args.thread None c.self.invariant.sound (at-some s.calls c.args.thread (Loaded c.args.range c.args.word) at)
    (rw at (quiet-loaded s c.args.range c.args.word)) (quiet-none s) tt))

pub invariant_of-self-2 : goal.invariant_of-self-2
invariant_of-self-2 c =
    let s : State = state_of c.self.inside in
    let at = rw (← c.self.view_is) at c.requires in
    let l = call-fits s c.args.thread (Loaded c.args.range c.args.word) c.self.invariant.sound at in
    let b = rw (← c.self.view_is) at c.loaded_block-block.ensures in
    let r : c.len-r.result ≡ length c.self.inside.records.items = omega (arith, c.len-r.ensures) in
    record {
      sound = rw (c.set-2.ensures, c.push_reserved.ensures.items, r, b)
          (sound-readied s c.args.thread c.args.range c.args.word (loaded_block s c.args.range c.args.word) c.self.invariant.sound at l
          (rw (l.shares.at, l.promised.says.owner) refl) (omega (arith, c.in_ok-room_for_record.ensures.few)));
      block_room = c.self.invariant.block_room;
      record_room = rw (c.push_reserved.ensures.items, length-append) (omega (arith, c.in_ok-room_for_record.ensures.freed_room));
      lent_room = rw c.set-2.ensures c.self.invariant.lent_room;
    }
