use Rattle.iobufs.proofs.Text.{HaveNoSpare, IsParts, ap, in_order, length, parts_filled, parts_overwritten, subst, sym, ◌∙◌}
use Rattle.iobufs.proofs.Parts.{filled-order, full-overwritten, overwritten-order, parts-overwritten, summed-overwritten}
use Rattle.iobufs.proofs.bufs_mut.several.Several.copy_from_slice.Goals as goal

pub copy_from_slice-requires : goal.copy_from_slice-requires
copy_from_slice-requires c =
    let s = c.self.inside in
    c.requires ∙ ap length (sym (filled-order s.row.items s.used c.self.invariant.behind ∙ ap parts_filled c.self.view_is))

pub invariant_of-self : goal.invariant_of-self
invariant_of-self c =
    let s = c.self.inside in
    let src = c.args.src.now in
    let over = overwritten-order s.row.items _ s.used src c.self.invariant.behind c.copy_from_slice.ensures in
    record {
      behind = over.1;
      no_spare = subst (λ ps. HaveNoSpare s.full ps) (sym over.0)
          (full-overwritten s.full (in_order s.row.items s.used) src c.self.invariant.no_spare);
      parts = subst IsParts (sym over.0) (parts-overwritten (in_order s.row.items s.used) src c.self.invariant.parts);
      sums = summed-overwritten (in_order s.row.items s.used) _ src s.len s.capacity c.self.invariant.sums over.0;
    }

pub returns : goal.returns
returns c =
    let s = c.self.inside in
    let src = c.args.src.now in
    (overwritten-order s.row.items _ s.used src c.self.invariant.behind c.copy_from_slice.ensures).0
    ∙ ap (λ ps. parts_overwritten ps src) c.self.view_is
