use Rattle.iobufs.proofs.Text.{AreFull, IsRow, View, ViewRow, ap, arith, last-behind, last-front, last-here, last-inside, last-left, last-right, last-sum, length, length-take-le, pieces_bytes, popped, row-push, row-take, subst, sym, view_front, views-popped, views_in, ◌%◌, ◌+◌, ◌^◌, ◌∙◌}
use Rattle.iobufs.proofs.bufs.row.Row.split_last.Goals as goal

pub invariant_of-self : goal.invariant_of-self
invariant_of-self c = subst (IsRow c.self.inside.base) (sym c.pop_back.ensures.rest) (row-take c.self.inside.base _ _ c.self.invariant)

pub returns-then-place-eq0-clause-answer : goal.returns-then-place-eq0-clause-answer
returns-then-place-eq0-clause-answer c =
    let is = views-popped _ _ c.unwrap-last.result (popped _ _ _ c.unwrap-last.result c.pop_back.ensures.items c.unwrap-last.ensures) in
    let full = subst (λ (r : ViewRow). AreFull r.views) c.self.view_is c.self.invariant.full in
    last-right _ _ c.unwrap-last.result.view c.args.at _ _ (sym (ap (λ (r : ViewRow). r.views) c.self.view_is) ∙ is) c.requires.last full
    c.requires.place c.if-place-eq0.true

pub returns-then-place-eq0-clause-left : goal.returns-then-place-eq0-clause-left
returns-then-place-eq0-clause-left c =
    let is = views-popped _ _ c.unwrap-last.result (popped _ _ _ c.unwrap-last.result c.pop_back.ensures.items c.unwrap-last.ensures) in
    let full = subst (λ (r : ViewRow). AreFull r.views) c.self.view_is c.self.invariant.full in
    last-left _ _ c.unwrap-last.result.view c.args.at _ _ (sym (ap (λ (r : ViewRow). r.views) c.self.view_is) ∙ is) c.requires.last full
    c.requires.place c.if-place-eq0.true

pub invariant_of-self-2 : goal.invariant_of-self-2
invariant_of-self-2 c =
    let piece = c.unwrap-piece.result.view in
    let is = views-popped _ _ c.unwrap-piece.result
    (popped _ _ _ c.unwrap-piece.result c.pop_back-2.ensures.items c.unwrap-piece.ensures) in
    let before = subst (IsRow c.self.inside.base) (sym c.pop_back-2.ensures.rest) (row-take c.self.inside.base _ _ c.self.invariant) in
    let vs_is = sym (ap (λ (r : ViewRow). r.views) c.self.view_is) ∙ is in
    let sum = last-sum _ _ piece c.args.at _ _ vs_is c.requires.last c.requires.place in
    let inside = last-inside _ _ piece c.args.at _ _ vs_is c.requires.last c.requires.place in
    let last = c.requires.last ∙ ap (λ (r : ViewRow). length r.views) (sym c.self.view_is) in
    let cut = c.in_ok-view.ensures.inside (omega (arith, c.if-place-eq0.false))
    ∙ ap (λ (v : View). view_front v c.args.place.offset) (last-here _ _ piece c.args.place.index is last) in
    let len = ap (λ (v : View). length v.bytes) cut ∙ length-take-le c.args.place.offset piece.bytes (omega arith) in
    let end = ap (λ n. (c.self.inside.base + n) % 2 ^ 64)
    (sum ∙ ap (λ n. length (pieces_bytes (views_in c.pop_back-2.new.self.items)) + n) (sym len)) in
    row-push c.self.inside.base _ _ _ c.in_ok-view.view before (omega (arith, c.if-place-eq0.false)) (omega (arith, c.ranges.at.fits)) end
    c.push_back_reserved.ensures.items

pub returns-clause-answer : goal.returns-clause-answer
returns-clause-answer c =
    let is = views-popped _ _ c.unwrap-piece.result
    (popped _ _ _ c.unwrap-piece.result c.pop_back-2.ensures.items c.unwrap-piece.ensures) in
    last-behind _ _ c.unwrap-piece.result.view c.advance.new.self c.args.at _ _ (sym (ap (λ (r : ViewRow). r.views) c.self.view_is) ∙ is)
    c.requires.last c.requires.place c.advance.ensures

pub returns-clause-left : goal.returns-clause-left
returns-clause-left c =
    let piece = c.unwrap-piece.result.view in
    let is = views-popped _ _ c.unwrap-piece.result
    (popped _ _ _ c.unwrap-piece.result c.pop_back-2.ensures.items c.unwrap-piece.ensures) in
    let last = c.requires.last ∙ ap (λ (r : ViewRow). length r.views) (sym c.self.view_is) in
    let cut = c.in_ok-view.ensures.inside (omega (arith, c.if-place-eq0.false))
    ∙ ap (λ (v : View). view_front v c.args.place.offset) (last-here _ _ piece c.args.place.index is last) in
    views-popped _ _ _ c.push_back_reserved.ensures.items
    ∙ last-front _ _ piece c.in_ok-view.view c.args.at _ _ (sym (ap (λ (r : ViewRow). r.views) c.self.view_is) ∙ is) c.requires.last
    c.requires.place (omega arith) cut
