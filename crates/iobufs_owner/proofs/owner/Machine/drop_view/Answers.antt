use Rattle.iobufs_owner.proofs.Base.{refl, State, state_of, counted-at, still}
use Rattle.iobufs_owner.proofs.Soundness.{sound-dropping, drop-after}
use Rattle.iobufs_owner.proofs.owner.Machine.drop_view.Goals as goal

pub invariant_of-self : goal.invariant_of-self
invariant_of-self c =
    let s : State = state_of c.self.inside in
    let k = c.self.invariant.sound in
    let q = rw (← c.self.view_is) at c.requires in
    let f = counted-at s c.args.h c.args.x c.args.r k q.lent.at q.word in
    let d = drop-after s c.args.h c.args.r c.args.x _ k q.lent.at q.word f.live f.shown refl in
    let e = rw (← c.self.view_is) at c.record-record.ensures in
    rw c.set.ensures (still c.self.invariant refl refl refl refl refl refl (rw (c.after_count-next.ensures, e)
    (sound-dropping s c.args.thread c.args.h c.args.r c.args.x _ k q.lent.at q.word q.lent.kind_is q.lent.free q.idle q.there d)))
