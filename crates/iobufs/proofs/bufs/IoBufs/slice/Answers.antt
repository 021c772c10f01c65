use Rattle.iobufs.proofs.Text.{AreFull, AreViews, IsChunkPlace, List, MarkedText, View, across-native, ap, arith, by_lt, cut-run, false≢true, full-behind, full-run, held-between, inl, inr, len-of_pieces, length, length-kept, of_pieces, piece_at, pieces_bytes, places-meet, places-rise, refl, rest-len, roomy-behind, roomy-run, split_front-all, static-run, static-within, static_mark, subst, sym, taken_view, text_len, text_rest, text_split_front, view_len, ℕ, ◌+◌, ◌-◌, ◌<◌, ◌∙◌, ◌≡◌, ◌≤◌}
use Rattle.iobufs.proofs.bufs.IoBufs.slice.Goals as goal

pub locate-first-requires : goal.locate-first-requires
locate-first-requires c = omega (
  arith,
  c.requires.order,
  c.requires.inside,
  c.if-start-end.false,
  length-kept c.self.inside _ c.self.view_is,
)

pub locate-last-requires : goal.locate-last-requires
locate-last-requires c = omega (
  arith,
  c.requires.order,
  c.requires.inside,
  c.if-start-end.false,
  length-kept c.self.inside _ c.self.view_is,
)

pub overflow_sub-behind : goal.overflow_sub-behind
overflow_sub-behind c =
    places-rise _ _ _ _ _ _ _ c.locate-first.ensures.full c.locate-first.ensures.place c.locate-last.ensures.place
    (omega (arith, c.requires.order, c.if-start-end.false))

pub invariant_of-text : goal.invariant_of-text
invariant_of-text c = subst AreViews (sym c.in_ok-pieces.ensures.run)
    (roomy-run _ _ (roomy-behind c.locate-first.result.index _ c.self.invariant))

pub drop_front-requires : goal.drop_front-requires
drop_front-requires c =
    let held = held-between _ _ _ _ _ _ _ _ c.locate-first.ensures.full c.locate-first.ensures.place c.locate-last.ensures.place
    (omega (arith, c.requires.order, c.if-start-end.false)) c.in_ok-pieces.ensures.run in
    omega (arith, held, len-of_pieces c.in_ok-pieces.pieces)

pub returns-clause-ok : goal.returns-clause-ok
returns-clause-ok c =
    let from = c.args.range.start in
    let n = c.args.range.end - from in
    let run = c.in_ok-pieces.pieces in
    let is = c.in_ok-pieces.ensures.run in
    let o = c.locate-first.result.offset in
    let full = c.locate-first.ensures.full in
    let held = held-between _ _ _ _ _ _ _ _ full c.locate-first.ensures.place c.locate-last.ensures.place
    (omega (arith, c.requires.order, c.if-start-end.false)) is in
    let some : 0 < n = omega (arith, c.requires.order, c.if-start-end.false) in
    let cut : text_split_front (text_rest (of_pieces run) o) n ≡ text_split_front (text_rest c.args.self.now from) n =
    cut-run c.self.inside.pieces run _ _ from n _ o _ c.self.view_is refl full
    (subst AreFull (sym is) (full-run _ _ (full-behind _ _ full)))
    is c.locate-first.ensures.place some
    (omega (arith, c.requires.order, c.requires.inside, length-kept c.self.inside _ c.self.view_is)) (omega (arith, held, some)) in
    let same = ap (λ (t : MarkedText). text_len t) c.drop_front.ensures in
    let len = rest-len (of_pieces run) o (omega (arith, held, len-of_pieces run)) in
    by_lt n (text_len c.drop_front.new.self) (λ h. c.in_ok-truncate.ensures.kept h
    ∙ ap (λ (t : MarkedText). text_split_front t n) c.drop_front.ensures ∙ cut)
    (λ h. (c.truncate.ensures.longer h).0 ∙ c.drop_front.ensures
    ∙ sym (split_front-all (text_rest (of_pieces run) o) n some (omega (arith, same, len, held, h, len-of_pieces run))) ∙ cut)

-- a range that is static lies in one chunk, which is static
static-range : (vs : List View) (t : MarkedText) (from to i j o p : ℕ) → of_pieces vs ≡ t → AreFull vs → IsChunkPlace vs from i o
    → IsChunkPlace vs (to - 1) j p
    → from < to → to ≤ length (pieces_bytes vs) → (taken_view t from (to - from)).mark ≡ static_mark
    → ((piece_at vs i).mark ≡ static_mark) × (o + (to - from) ≤ view_len (piece_at vs i)) × (j - i ≡ 0)
static-range vs t from to i j o p e full first last l inside static =
    by_lt (view_len (piece_at vs i) - o) (to - from) (λ h. absurd (across-native vs t from (to - from) i o e first (omega arith) h static))
    (λ h. let within : o + (to - from) ≤ view_len (piece_at vs i) = omega (arith, h, first.inside) in (
      static-within vs t from (to - from) i o e first (omega arith) (omega arith) h static,
      within,
      places-meet vs from (to - 1) i j o p full first last (omega arith) (omega (arith, within)),
    ))

pub returns-in_err-pieces-clause-static_text : goal.returns-in_err-pieces-clause-static_text
returns-in_err-pieces-clause-static_text c = λ static.
    let (piece, inside, alone) = static-range _ _ c.args.range.start c.args.range.end _ _ _ _ c.self.view_is c.locate-first.ensures.full
    c.locate-first.ensures.place c.locate-last.ensures.place (omega (arith, c.requires.order, c.if-start-end.false))
    (omega (arith, c.requires.inside, length-kept c.self.inside _ c.self.view_is)) static in
    absurd (false≢true (c.in_err-pieces.ensures.free alone (inl piece)))

pub returns-in_err-truncate-clause-static_text : goal.returns-in_err-truncate-clause-static_text
returns-in_err-truncate-clause-static_text c = λ static.
    let first = c.locate-first.ensures.place in
    let full = c.locate-first.ensures.full in
    let (piece, inside, alone) = static-range _ _ c.args.range.start c.args.range.end _ _ _ _ c.self.view_is full first
    c.locate-last.ensures.place (omega (arith, c.requires.order, c.if-start-end.false))
    (omega (arith, c.requires.inside, length-kept c.self.inside _ c.self.view_is)) static in
    let left = static-run _ _ c.drop_front.new.self c.args.range.start (c.args.range.end - c.args.range.start) _ _ _ full first
    c.in_ok-pieces.ensures.run alone (omega (arith, c.requires.order, c.if-start-end.false)) inside piece c.drop_front.ensures in
    absurd (false≢true (c.in_err-truncate.ensures.free (inr (inr (inr (inl left))))))
