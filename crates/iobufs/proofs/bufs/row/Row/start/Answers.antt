use Rattle.iobufs.proofs.Text.{IfSome, Entry, ViewRow, ap, arith, end-of, length, length-map, piece_start, slice_index_or, subst, suc, ◌-◌, ◌∙◌, ◌≡◌}
use Rattle.iobufs.proofs.bufs.row.Row.start.Goals as goal

pub returns : goal.returns
returns c =
    let row = c.self.inside.entries in
    let i = c.args.index in
    let next : suc (i - 1) ≡ i = omega (arith, c.if-index-eq0.false) in
    let found = subst (λ before. IfSome before (λ x. x.now ≡ slice_index_or row.items
    (i - 1) x.now)) c.unwrap-before.ensures c.get.ensures.lookup in
    end-of c.self.inside.base (i - 1) row.items c.unwrap-before.result.now c.self.invariant
    (omega (
      arith,
      next,
      c.requires,
      ap (λ (r : ViewRow). length r.views) c.self.view_is,
      length-map row.items (λ (p : Entry). p.view),
    )) found
    ∙ ap (λ (r : ViewRow). piece_start r.views (suc (i - 1))) c.self.view_is
    ∙ ap (piece_start c.args.self.now.views) next
