use Rattle.iobufs.proofs.Text.{List, View, [], ap, arith, bytes-from, bytes-kept, differ-at, drop, drop_all, length, length-append, length-kept, matched-lengths, matched-more, of_texts, pieces_bytes, refl, same-to_end, sym, ◌++◌, ◌+◌, ◌∙◌, ◌≡◌, ◌≤◌}
use Rattle.iobufs.proofs.bufs.IoBufsPartialEq.eq.Goals as goal

pub loop-index-init : goal.loop-index-init
loop-index-init c =
    record { offset = omega arith; matched = (record { done = []; compared = refl; stands = refl }) }

pub matched-requires-clause-offset : goal.matched-requires-clause-offset
matched-requires-clause-offset c = c.loop-index.invariant.offset

pub matched-requires-clause-inside : goal.matched-requires-clause-inside
matched-requires-clause-inside c =
    let ours = c.self.inside.pieces in
    let i = c.loop-index.index in
    let others = length-kept c.other.inside _ c.other.view_is in
    let len : length (pieces_bytes ours) ≡ length (pieces_bytes c.other.inside.pieces) =
    omega (arith, length-kept c.self.inside _ c.self.view_is, others, c.if-len.false, c.len.ensures.value, c.len-2.ensures.value) in
    let left = matched-lengths _ _ _ _ c.loop-index.invariant.matched len in
    let is = c.as_ref.ensures ∙ ap (λ (v : View). v.bytes) c.piece.ensures in
    let parts = bytes-from ours i 0 (omega arith) (omega arith) ∙ ap (λ xs. xs ++ pieces_bytes (drop (i + 1) ours)) (sym is) in
    omega (arith, left, ap length parts, length-append c.as_ref.result.now (pieces_bytes (drop (i + 1) ours)))

pub returns-in_default : goal.returns-in_default
returns-in_default c =
    let ours = c.self.inside.pieces in
    let i = c.loop-index.index in
    let is = c.as_ref.ensures ∙ ap (λ (v : View). v.bytes) c.piece.ensures in
    let parts = bytes-from ours i 0 (omega arith) (omega arith) ∙ ap (λ xs. xs ++ pieces_bytes (drop (i + 1) ours)) (sym is) in
    of_texts _ _ _ _ _ (bytes-kept c.self.inside _ c.self.view_is) (bytes-kept c.other.inside _ c.other.view_is)
    (differ-at _ _ _ _ c.as_ref.result.now _ c.loop-index.invariant.matched parts c.in_default.ensures)

pub loop-index-preserved : goal.loop-index-preserved
loop-index-preserved c =
    let ours = c.self.inside.pieces in
    let i = c.loop-index.index in
    let is = c.as_ref.ensures ∙ ap (λ (v : View). v.bytes) c.piece.ensures in
    let parts = bytes-from ours i 0 (omega arith) (omega arith) ∙ ap (λ xs. xs ++ pieces_bytes (drop (i + 1) ours)) (sym is) in
    record {
      offset = c.in-Some.ensures.0;
      matched = matched-more _ _ _ _ c.as_ref.result.now _ _ c.loop-index.invariant.matched parts c.in-Some.ensures.1;
    }

pub returns : goal.returns
returns c =
    let ours = c.self.inside.pieces in
    let others = length-kept c.other.inside _ c.other.view_is in
    let len : length (pieces_bytes ours) ≡ length (pieces_bytes c.other.inside.pieces) =
    omega (arith, length-kept c.self.inside _ c.self.view_is, others, c.if-len.false, c.len.ensures.value, c.len-2.ensures.value) in
    let last : length ours ≤ c.loop-index.index = omega (arith, c.loop-index-test.false, c.count-index-end.ensures) in
    of_texts _ _ _ _ _ (bytes-kept c.self.inside _ c.self.view_is) (bytes-kept c.other.inside _ c.other.view_is)
    (same-to_end _ _ _ _ c.loop-index.invariant.matched len
    (ap (λ (ws : List View). pieces_bytes ws) (drop_all c.loop-index.index ours last)))
