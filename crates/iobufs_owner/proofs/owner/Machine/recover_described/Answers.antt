use Rattle.iobufs_owner.proofs.Base.{arith, sound-thawed_described, same-some, refl, edit}
use Rattle.iobufs_owner.proofs.Soundness.{described-ends}
use Rattle.iobufs_owner.proofs.owner.Machine.recover_described.Goals as goal

pub unpack-tail-requires : goal.unpack-tail-requires
unpack-tail-requires c = (described-ends c.self.invariant c.self.view_is c.requires.lent c.requires.word).0.word

pub with_tail-requires : goal.with_tail-requires
with_tail-requires c = (described-ends c.self.invariant c.self.view_is c.requires.lent c.requires.word).0.word

pub overflow_add-x : goal.overflow_add-x
overflow_add-x c =
    let e = (described-ends c.self.invariant c.self.view_is c.requires.lent c.requires.word).0.view c.requires.lent.kind_is in
    rw c.unpack-tail.ensures.tail (omega (arith, e))

pub invariant_of-self : goal.invariant_of-self
invariant_of-self c =
    let e = same-some c.with_tail.result _ _ _ c.unwrap-whole.ensures c.with_tail.ensures.same in
    edit c.self.invariant refl (rw (e, c.unpack-tail.ensures.tail)
    (sound-thawed_described _ c.args.h c.args.x c.args.word c.self.invariant.sound
    (rw (← c.self.view_is) at c.requires.lent) c.requires.word))
