use Rattle.iobufs.proofs.Text.{IsParts, ap, arith, in_order, parts_capacity, parts_with_len, subst, sym, ◌∙◌, ◌≤◌}
use Rattle.iobufs.proofs.Parts.{kept-none, parts-with_len, summed-with_len}
use Rattle.iobufs.proofs.bufs_mut.several.Several.set_len.Goals as goal

pub invariant_of-self : goal.invariant_of-self
invariant_of-self c =
    let s = c.self.inside in
    let n = c.args.n in
    let with_len = c.set_len.ensures ∙ ap (λ ps. parts_with_len ps n) c.settle.ensures.ordered in
    let all = in_order s.row.items s.used in
    let fits : n ≤ parts_capacity all = omega (arith, ap parts_capacity c.self.view_is, c.requires) in
    kept-none _ _ _ n s.capacity c.settle.ensures.none tt (summed-with_len all _ n s.len s.capacity c.self.invariant.sums fits with_len)
    (subst IsParts (sym with_len) (parts-with_len all n c.self.invariant.parts))
