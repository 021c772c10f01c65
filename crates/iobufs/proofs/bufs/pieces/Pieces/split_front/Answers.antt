use Rattle.iobufs.proofs.Text.{IsPieced, List, View, ap, arith, below-as, edge-last, index-of_place, left-two, length, piece_at, pieced-as, pieces_bytes, refl, right-full, right-two, several-either, subst, sym, view_len, views, ◌+◌, ◌<◌, ◌∙◌, ◌≡◌}
use Rattle.iobufs.proofs.bufs.pieces.Pieces.split_front.Goals as goal

pub settle-requires : goal.settle-requires
settle-requires c =
    let inside = below-as (sym c.self.view_is ∙ ap views c.in-Many.is) c.requires.inside in
    (right-full c.in-Many.row.views _ c.args.at (pieced-as c.in-Many.is c.self.invariant).1 inside c.in_ok-front-in-Many.ensures.left).1

pub invariant_of-result : goal.invariant_of-result
invariant_of-result c =
    let inside = below-as (sym c.self.view_is ∙ ap views c.in-Many.is) c.requires.inside in
    let first = ap (λ (v : View). view_len v) c.piece.ensures in
    let behind : view_len (piece_at c.in-Many.row.views 0) < c.args.at = omega (arith, c.if-at-len.false, c.len.ensures.value, first) in
    subst IsPieced (sym c.replace-form.ensures.value)
    (left-two c.in-Many.row.views _ c.args.at (pieced-as c.in-Many.is c.self.invariant).1 behind inside c.in_ok-last-in-Many.ensures.left)

pub invariant_of-self-in-Many : goal.invariant_of-self-in-Many
invariant_of-self-in-Many c =
    let is : c.args.self.now ≡ c.in-Many.row.views = sym c.self.view_is ∙ ap views c.in-Many.is in
    let pieced = pieced-as c.in-Many.is c.self.invariant in
    let place = c.locate-place.ensures.place in
    let more : c.locate-place.result.index + 1 < length c.in-Many.row.views =
    omega (arith, index-of_place _ _ _ _ place, c.count.ensures.value, c.if-behind-eq1.false) in
    several-either c.split_front.result _ _ _ pieced
    (right-two c.in-Many.row.views _ c.args.at _ _ pieced.1 (below-as is c.requires.inside) place more refl)
    c.split_front.ensures.left c.split_front.ensures.unchanged

pub returns-in_err-split_front-in-Many-clause-last : goal.returns-in_err-split_front-in-Many-clause-last
returns-in_err-split_front-in-Many-clause-last c = λ front last cut edge.
    let is : c.args.self.now ≡ c.in-Many.row.views = sym c.self.view_is ∙ ap views c.in-Many.is in
    let inside = below-as is c.requires.inside in
    let at_end = edge-last c.in-Many.row.views front last c.args.at _ _ (pieced-as c.in-Many.is c.self.invariant).1 (sym is ∙ cut)
    (edge ∙ ap (λ (vs : List View). length (pieces_bytes vs)) is) c.locate-place.ensures.place in
    absurd (omega (arith, at_end.0, c.count.ensures.value, c.if-behind-eq1.false))

pub invariant_of-result-in-Many : goal.invariant_of-result-in-Many
invariant_of-result-in-Many c =
    let inside = below-as (sym c.self.view_is ∙ ap views c.in-Many.is) c.requires.inside in
    let first = ap (λ (v : View). view_len v) c.piece.ensures in
    let behind : view_len (piece_at c.in-Many.row.views 0) < c.args.at = omega (arith, c.if-at-len.false, c.len.ensures.value, first) in
    left-two c.in-Many.row.views _ c.args.at
    (pieced-as c.in-Many.is c.self.invariant).1 behind inside c.in_ok-split_front-in-Many.ensures.answer
