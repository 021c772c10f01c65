use Rattle.iobufs.proofs.Text.{[], ap, arith, in_order, length, parts_capacity, ◌++◌, ◌∙◌, ◌∷◌}
use Rattle.iobufs.proofs.Parts.{kept-pushed, kept-same, spare-summed}
use Rattle.iobufs.proofs.bufs_mut.several.Several.push.Goals as goal

pub overflow_add-self : goal.overflow_add-self
overflow_add-self c =
    let s = c.self.inside in
    let sums = c.self.invariant.sums in
    omega (
      arith,
      spare-summed (in_order s.row.items s.used) s.len s.capacity sums,
      ap parts_capacity c.self.view_is,
      sums.capacity_is,
      c.len-len.ensures,
      c.requires,
    )

pub invariant_of-self-2 : goal.invariant_of-self-2
invariant_of-self-2 c =
    let s = c.self.inside in
    let part = c.args.part in
    let is = (rw c.if-is_err.ensures.negation at c.push_back.ensures.items) ∙ ap (λ ps. ps ++ part ∷ []) c.settle.ensures.ordered in
    kept-pushed s.row.items _ s.used c.settle.new.used part s.full s.len s.capacity _ _ c.self.invariant is c.settle.ensures.none
    (omega (arith, ap length c.self.view_is, c.requires.several)) c.requires.more
    (omega (arith, ap parts_capacity c.self.view_is, c.requires.fits)) c.len-len.ensures c.capacity-capacity.ensures

pub returns-clause-kept : goal.returns-clause-kept
returns-clause-kept c =
    let s = c.self.inside in
    let part = c.args.part in
    let is = (rw c.if-is_err.ensures.negation at c.push_back.ensures.items) ∙ ap (λ ps. ps ++ part ∷ []) c.settle.ensures.ordered in
    let kept = kept-pushed s.row.items _ s.used c.settle.new.used part s.full s.len s.capacity _ _ c.self.invariant is c.settle.ensures.none
    (omega (arith, ap length c.self.view_is, c.requires.several)) c.requires.more
    (omega (arith, ap parts_capacity c.self.view_is, c.requires.fits)) c.len-len.ensures c.capacity-capacity.ensures in
    kept-same _ kept.parts.some kept.parts.have_capacity
