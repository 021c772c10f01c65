use Rattle.iobufs.proofs.Text.{Located, arith, bytes-kept, bytes_behind, found-same, length-kept, of_texts, piece_at, refl, view_len, ◌∙◌, ◌≤◌}
use Rattle.iobufs.proofs.bufs.IoBufs.eq_bytes.Goals as goal

pub matched-requires-clause-inside : goal.matched-requires-clause-inside
matched-requires-clause-inside c = omega (arith, c.if-len-bytes.true, c.len.ensures.value, length-kept c.self.inside _ c.self.view_is)

pub returns-then-len-bytes : goal.returns-then-len-bytes
returns-then-len-bytes c =
    let vs = c.self.inside.pieces in
    of_texts _ _ _ _ _ (bytes-kept c.self.inside _ c.self.view_is) refl
    (c.is_some.ensures ∙ found-same _ c.args.bytes.now c.matched.result (λ (end : Located). end.offset ≤ view_len (piece_at vs end.index))
    (λ (end : Located). bytes_behind vs end.index end.offset)
    (omega (arith, c.if-len-bytes.true, c.len.ensures.value, length-kept c.self.inside _ c.self.view_is)) c.matched.ensures)
