use Rattle.iobufs.proofs.Text.{ap, arith, in_order, parts_fill, parts_spare, ◌∙◌}
use Rattle.iobufs.proofs.Parts.{kept-filled, spare-summed}
use Rattle.iobufs.proofs.bufs_mut.several.Several.put_behind.Goals as goal

pub overflow_add-self : goal.overflow_add-self
overflow_add-self c =
    let s = c.self.inside in
    omega (
      arith,
      spare-summed (in_order s.row.items s.used) s.len s.capacity c.self.invariant.sums,
      ap parts_spare c.self.view_is,
      c.requires,
    )

pub invariant_of-self : goal.invariant_of-self
invariant_of-self c =
    let s = c.self.inside in
    let src = c.args.src.now in
    let put = c.put-self-inside.ensures in
    kept-filled s.row.items _ s.used _ s.full _ s.len s.capacity src c.self.invariant c.settle.ensures.none
    (put.put ∙ ap (λ ps. parts_fill ps src) c.settle.ensures.ordered) put.full (omega (arith, ap parts_spare c.self.view_is, c.requires))
