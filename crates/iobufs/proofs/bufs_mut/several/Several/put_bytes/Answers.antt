use Rattle.iobufs.proofs.Text.{HaveNoSpare, ap, arith, in_order, length, length-replicate, parts_fill, parts_spare, replicate, subst, sym, ◌∙◌, ◌≡◌}
use Rattle.iobufs.proofs.Parts.{full-fill, kept-filled, spare-summed}
use Rattle.iobufs.proofs.bufs_mut.several.Several.put_bytes.Goals as goal

pub overflow_add-self : goal.overflow_add-self
overflow_add-self c =
    let s = c.self.inside in
    omega (
      arith,
      spare-summed (in_order s.row.items s.used) s.len s.capacity c.self.invariant.sums,
      ap parts_spare c.self.view_is,
      c.requires,
    )

pub invariant_of-self : goal.invariant_of-self
invariant_of-self c =
    let s = c.self.inside in
    let w = replicate c.args.n c.args.value in
    let long : length w ≡ c.args.n = length-replicate c.args.n c.args.value in
    let ordered = c.settle.ensures.ordered in
    let full = c.count_full-self-inside in
    rw (← long) (kept-filled s.row.items _ s.used _ s.full full.result s.len s.capacity w c.self.invariant c.settle.ensures.none
    (c.put_bytes.ensures ∙ ap (λ ps. parts_fill ps w) ordered)
    (subst (λ ps. HaveNoSpare full.result ps) (sym c.put_bytes.ensures) (full-fill full.result _ w full.ensures))
    (omega (arith, ap parts_spare c.self.view_is, c.requires)))
