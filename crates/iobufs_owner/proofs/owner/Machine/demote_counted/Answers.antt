use Rattle.iobufs_owner.proofs.Base.{◌≡◌, inl, inr, arith, ap, refl, sym, ◌∙◌, length-set, Block, Record, State, Descriptor, state_of, described, block_at, log_of, record_at, now, still}
use Rattle.iobufs_owner.proofs.Soundness.{MayDemote, demoting, sound-demoted, keeps-record, frees-record}
use Rattle.iobufs_owner.proofs.owner.Machine.demote_counted.Goals as goal

pub returns-then-not-is_sole : goal.returns-then-not-is_sole
returns-then-not-is_sole c =
    let e = rw c.record-record.ensures at c.block-block.ensures in
    let z = keeps-record c.args.self.now.state c.args.h c.args.r c.args.x (λ m. elim c.then-not-is_sole.either [
      | inl w ↦ w (ap (λ (v : Record). v.count) c.record-record.ensures ∙ m.one)
      | inr w ↦ (let q = sym w.1 ∙ ap (λ (b : Block). b.external) e ∙ m.native in cc)
    ]) in
    (z.0, z.1, refl)

pub overflow_sub-tail : goal.overflow_sub-tail
overflow_sub-tail c =
    let d = demoting (now c.self.invariant c.self.view_is) c.requires.lent c.requires.word in
    rw (c.block-block.ensures, c.record-record.ensures) (omega (arith, d.reaches))

pub overflow_sub-tail-2 : goal.overflow_sub-tail-2
overflow_sub-tail-2 c =
    let d = demoting (now c.self.invariant c.self.view_is) c.requires.lent c.requires.word in
    rw (c.block-block.ensures, c.record-record.ensures) (omega (arith, d.reaches))

pub pack-requires : goal.pack-requires
pack-requires c =
    rw (c.block-block.ensures, c.record-record.ensures)
    (demoting (now c.self.invariant c.self.view_is) c.requires.lent c.requires.word).power

pub returns-in_default : goal.returns-in_default
returns-in_default c =
    let s : State = state_of c.self.inside in
    let d = demoting c.self.invariant.sound (rw (← c.self.view_is) at c.requires.lent) c.requires.word in
    let e = rw (c.record-record.ensures, ← c.self.view_is) at c.block-block.ensures in
    let z = keeps-record s c.args.h c.args.r c.args.x
    (λ m. c.in_default.ensures.sum (log_of (block_at s.tables (record_at s.tables c.args.r).block).align) (rw e d.log) (rw e m.room)) in
    rw (← c.self.view_is) (z.0, z.1, refl)

pub push_reserved-requires : goal.push_reserved-requires
push_reserved-requires c =
    let d = demoting c.self.invariant.sound (rw (← c.self.view_is) at c.requires.lent) c.requires.word in
    omega (arith, d.log_room, c.self.invariant.record_room)

-- the record may go, and the word is the descriptor in its place
packed : (c : goal.After-push_reserved) → let s : State = state_of c.self.inside in
    MayDemote s.tables c.args.x c.args.r × (record c.args.x { word = Descriptor c.in-Some.word } ≡ described s.tables c.args.x c.args.r)
packed c =
    let s : State = state_of c.self.inside in
    let e1 = rw (← c.self.view_is) at c.record-record.ensures in
    let e = rw (c.record-record.ensures, ← c.self.view_is) at c.block-block.ensures in
    let d = demoting c.self.invariant.sound (rw (← c.self.view_is) at c.requires.lent) c.requires.word in
    let w = c.in-Some.ensures.sum (log_of (block_at s.tables (record_at s.tables c.args.r).block).align) (rw e d.log) in
    (record { one = rw e1 at c.if-not-is_sole.false; native = rw e at c.if-is_external.false; room = rw e at w.0 }, rw (rw e at w.1) refl)

pub invariant_of-self : goal.invariant_of-self
invariant_of-self c =
    let e1 = rw (← c.self.view_is) at c.record-record.ensures in
    still c.self.invariant refl (length-set _ _ _) refl c.push_reserved.ensures.capacity refl refl
    (rw (c.push_reserved.ensures.items, e1, (packed c).1)
    (sound-demoted _ c.args.h c.args.r c.args.x c.self.invariant.sound (rw (← c.self.view_is) at c.requires.lent) c.requires.word
    (packed c).0))

pub returns : goal.returns
returns c =
    let e1 = rw (← c.self.view_is) at c.record-record.ensures in
    let z = frees-record (state_of c.self.inside) c.args.h c.args.r c.args.x (packed c).0 in
    rw (← c.self.view_is, c.push_reserved.ensures.capacity) (z.0, rw (c.push_reserved.ensures.items, e1, (packed c).1) z.1, refl)
