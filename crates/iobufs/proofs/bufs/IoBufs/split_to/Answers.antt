use Rattle.iobufs.proofs.Text.{AreViews, AreViews-left, AreViews-right, MarkedText, ap, arith, chunks-kept, false≢true, first-kept, full-kept, last-view, length, length-kept, of_pieces, rest-kept, some_views, split_front-of_pieces, static-first, subst, sym, text_split_front, ⊎_elim, ◌∙◌}
use Rattle.iobufs.proofs.bufs.IoBufs.split_to.Goals as goal

pub split_front-requires-clause-inside : goal.split_front-requires-clause-inside
split_front-requires-clause-inside c = omega (arith, length-kept c.self.inside _ c.self.view_is)

pub invariant_of-result : goal.invariant_of-result
invariant_of-result c = subst AreViews (sym c.in_ok-pieces.ensures.split.0) (AreViews-left _ _ c.self.invariant)

pub invariant_of-self-2 : goal.invariant_of-self-2
invariant_of-self-2 c = subst AreViews (sym c.in_ok-pieces.ensures.split.1) (AreViews-right _ _ c.self.invariant)

pub returns-clause-split : goal.returns-clause-split
returns-clause-split c =
    let n = length-kept c.self.inside _ c.self.view_is in (
      ap of_pieces c.in_ok-pieces.ensures.split.0 ∙ sym (split_front-of_pieces _ c.self.inside.pieces (omega arith) (omega arith))
          ∙ ap (λ (x : MarkedText). text_split_front x c.args.at) c.self.view_is,
      rest-kept _ _ c.args.self.now c.args.at c.self.view_is (omega arith) (omega (arith)) c.in_ok-pieces.ensures.split.1,
    )

pub returns-in_err-pieces-clause-free : goal.returns-in_err-pieces-clause-free
returns-in_err-pieces-clause-free c =
    let s = c.self.inside in
    let n = length-kept s _ c.self.view_is in
    let failed = c.in_err-pieces.ensures in
    let first = ap length (first-kept s.pieces _ c.self.view_is failed.pieces) in
    ⊎_elim (λ none. absurd (c.if-at-eq0.false none))
    (⊎_elim (λ whole. absurd (omega (arith, c.if-at-len.false, whole)))
    (⊎_elim (λ edge. absurd (false≢true (failed.first (edge ∙ sym first))))
    (⊎_elim
    (λ static.
    let mark = static-first _ _ 0 c.args.at c.self.view_is (omega (arith, c.if-at-eq0.false)) (omega (arith, first, static.0)) static.1 in
    absurd (false≢true (failed.static_text (omega (arith, first, static.0)) mark)))
    (λ last.
    let full = full-kept s _ c.self.view_is failed.pieces (omega (arith, c.if-at-eq0.false, last.3)) in
    let view = last-view s.pieces last.0 last.1
    (sym (chunks-kept s.pieces _ c.self.view_is (some_views s.pieces failed.pieces) full) ∙ last.2) in
    absurd (false≢true (failed.last view.before view.last view.is (omega (arith, last.3, ap length view.bytes)))))
    )))
