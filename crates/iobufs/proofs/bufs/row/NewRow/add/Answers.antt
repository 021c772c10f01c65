use Rattle.iobufs.proofs.Text.{List, View, ViewRow, ap, append-nil, arith, flat_map-append, length, length-append, pieces_bytes, row-push, views-popped, views_in, ◌++◌, ◌∙◌, ◌∷◌, []}
use Rattle.iobufs.proofs.bufs.row.NewRow.add.Goals as goal

pub invariant_of-self : goal.invariant_of-self
invariant_of-self c =
    let row = c.self.inside in
    let piece = c.args.piece in
    let pushed = c.push_reserved.ensures.items in
    let bytes = ap (λ (r : ViewRow). length (pieces_bytes r.views)) c.self.view_is in
    let fits = c.requires.fits in
    let more = c.len-more.ensures.value in
    let total =
    ap (λ (vs : List View). length (pieces_bytes vs)) (views-popped _ row.entries.items _ pushed)
    ∙ ap length (flat_map-append (λ (v : View). v.bytes) (views_in row.entries.items) (piece ∷ []))
    ∙ length-append (pieces_bytes (views_in row.entries.items)) (piece.bytes ++ []) in
    let none = ap length (append-nil piece.bytes) in (
      row-push 0 _ row.entries.items _ piece c.self.invariant.0 (omega (arith, more, c.if-more-ne0.true)) (omega (arith, bytes, fits))
          (omega (arith, bytes, fits, more, c.self.invariant.1)) pushed,
      omega (arith, total, none, more, c.self.invariant.1),
    )
