use Rattle.iobufs_owner.proofs.Base.{length-set, Ready, refl, still, call-fits, now}
use Rattle.iobufs_owner.proofs.Soundness.{logs-room, sound-lost}
use Rattle.iobufs_owner.proofs.owner.Machine.lose.Goals as goal

pub push_reserved-requires : goal.push_reserved-requires
push_reserved-requires c = (logs-room c.args.r c.self.invariant c.self.view_is
    (call-fits _ c.args.thread (Ready c.args.range c.args.word c.args.r) (now c.self.invariant c.self.view_is) c.requires.call).live).1

pub invariant_of-self : goal.invariant_of-self
invariant_of-self c =
    let q = rw (← c.self.view_is) at c.requires in
    let e = rw (← c.self.view_is) at c.record-record.ensures in
    rw c.set.ensures (still c.self.invariant refl (length-set _ _ _) refl c.push_reserved.ensures.capacity refl refl
    (rw (e, c.push_reserved.ensures.items)
    (sound-lost _ c.args.thread c.args.r c.args.word c.args.winner c.args.range c.args.x c.self.invariant.sound
    q.call q.at c.requires.word)))
