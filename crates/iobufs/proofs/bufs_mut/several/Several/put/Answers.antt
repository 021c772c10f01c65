use Rattle.iobufs.proofs.Text.{ap, arith, in_order, parts_fill, parts_spare, refl, sym, ◌∙◌}
use Rattle.iobufs.proofs.Parts.{kept-filled, order-none, spare-summed}
use Rattle.iobufs.proofs.bufs_mut.several.Several.put.Goals as goal

pub overflow_add-self : goal.overflow_add-self
overflow_add-self c =
    let s = c.self.inside in
    omega (
      arith,
      spare-summed (in_order s.row.items s.used) s.len s.capacity c.self.invariant.sums,
      ap parts_spare c.self.view_is,
      c.requires,
    )

pub invariant_of-self : goal.invariant_of-self
invariant_of-self c =
    let s = c.self.inside in
    let src = c.args.src.now in
    let none = c.if-self-eq0.true in
    let is = c.if-put_inside.ensures.put refl ∙ ap (λ ps. parts_fill ps src) (sym (order-none s.row.items s.used none)) in
    kept-filled s.row.items _ s.used s.used s.full _ s.len s.capacity src c.self.invariant none is c.if-put_inside.ensures.full
    (omega (arith, ap parts_spare c.self.view_is, c.requires))
