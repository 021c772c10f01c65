use Rattle.iobufs.proofs.Text.{View, ap, arith, chunk-stands, further-behind, length, length-drop, matched-differs, matched-end, matched-past, matched-past-not, matched-within, none-behind, piece_at, slice_from, sym, view_len, ◌++◌, ◌+◌, ◌∙◌, ◌≤◌}
use Rattle.iobufs.proofs.bufs.pieces.Pieces.matched.Goals as goal

pub returns-then-ne : goal.returns-then-ne
returns-then-ne c =
    let l = c.loop-index in
    let is = c.as_ref.ensures ∙ ap (λ (v : View). v.bytes) c.piece.ensures in
    let stands = chunk-stands c.args.self.now l.index l.offset c.as_ref.result.now (omega arith) l.invariant.offset is in
    matched-differs _ _ _ _ _ _ l.invariant.matched stands (omega (arith, c.if-left-chunk.true)) c.if-ne.ensures

pub returns-then-left-chunk : goal.returns-then-left-chunk
returns-then-left-chunk c =
    let l = c.loop-index in
    let vs = c.args.self.now in
    let all = c.as_ref.result.now in
    let is = c.as_ref.ensures ∙ ap (λ (v : View). v.bytes) c.piece.ensures in
    let inside : l.offset + length l.left.now ≤ view_len (piece_at vs l.index) =
    omega (arith, c.if-left-chunk.true, ap length (slice_from l.offset all), length-drop l.offset all, ap length is) in (
      inside,
      matched-within _ _ _ _ _ _ l.invariant.matched
          (chunk-stands vs l.index l.offset all (omega arith) l.invariant.offset is) c.if-ne.ensures
          ∙ ap (λ xs. c.args.bytes.now ++ xs) (sym (further-behind vs l.index l.offset (length l.left.now) all (omega arith) inside is)),
    )

pub loop-index-preserved : goal.loop-index-preserved
loop-index-preserved c =
    let l = c.loop-index in
    let is = c.as_ref.ensures ∙ ap (λ (v : View). v.bytes) c.piece.ensures in
    let stands = chunk-stands c.args.self.now l.index l.offset c.as_ref.result.now (omega arith) l.invariant.offset is in
    let cases = c.in-Some.ensures.cases in
    record { offset = omega arith; matched = matched-past _ _ _ _ _ _ _ l.invariant.matched stands cases.0 cases.1 }

pub returns-in_default : goal.returns-in_default
returns-in_default c =
    let l = c.loop-index in
    let is = c.as_ref.ensures ∙ ap (λ (v : View). v.bytes) c.piece.ensures in
    let stands = chunk-stands c.args.self.now l.index l.offset c.as_ref.result.now (omega arith) l.invariant.offset is in
    matched-past-not _ _ _ _ _ _ l.invariant.matched stands c.if-left-chunk.false c.in_default.ensures.cases

pub returns : goal.returns
returns c =
    let l = c.loop-index in
    let none = none-behind c.args.self.now l.index l.offset (omega (arith, c.loop-index-test.false, c.count-count.ensures)) in
    (l.invariant.offset, matched-end _ _ _ _ l.invariant.matched none c.requires.inside)
