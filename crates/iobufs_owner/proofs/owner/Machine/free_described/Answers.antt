use Rattle.iobufs_owner.proofs.Base.{◌≡◌, arith, refl, State, recovered, before, now, still, described-at}
use Rattle.iobufs_owner.proofs.Soundness.{described-ends, sound-freed_described}
use Rattle.iobufs_owner.proofs.owner.Machine.free_described.Goals as goal

pub recovered-freed-requires : goal.recovered-freed-requires
recovered-freed-requires c = described-at _ c.args.h c.args.x c.args.word
    (now c.self.invariant c.self.view_is) c.requires.lent.at c.requires.word

pub push_reserved-requires : goal.push_reserved-requires
push_reserved-requires c =
    let e = (described-ends c.self.invariant c.self.view_is c.requires.lent c.requires.word).1 in
    omega (arith, e, c.self.invariant.block_room)

pub invariant_of-self : goal.invariant_of-self
invariant_of-self c =
    let t = rw (← c.self.view_is) at c.requires.lent in
    let e = before (λ (s : State). c.recovered-freed.result ≡ recovered s.tables c.args.x c.args.word) c.self.inside _ c.self.view_is
    c.recovered-freed.ensures in
    still c.self.invariant refl refl c.push_reserved.ensures.capacity refl refl refl (rw (c.push_reserved.ensures.items, e)
    (sound-freed_described _ c.args.h c.args.x c.args.word c.args.rest c.self.invariant.sound t.at t.free c.requires.word c.requires.rest))
