use Rattle.iobufs.proofs.Text.{AreViews, AreViews-append, Inside, ap, arith, behind-row, length-row, of_pieces, pieced-as, several-push, subst, sym, views, ◌∙◌, ◌≡◌}
use Rattle.iobufs.proofs.bufs.IoBufs.append.Goals as goal

pub invariant_of-self-inside : goal.invariant_of-self-inside
invariant_of-self-inside c =
    several-push c.in-Many.row.views _ c.args.piece (pieced-as c.in-Many.is c.self-inside.invariant)
    (omega (arith, c.if-more-ne0.true, c.len-more.ensures.value)) c.push_back_reserved.ensures.pushed

pub invariant_of-self : goal.invariant_of-self
invariant_of-self c =
    let seen : c.in-Many.row.views ≡ c.self.inside.pieces = ap views (sym c.in-Many.is)
    ∙ ap (λ (s : Inside). s.pieces) c.self-inside.view_is in
    subst AreViews (sym c.push_back_reserved.ensures.pushed)
    (AreViews-append c.in-Many.row.views _ (subst AreViews (sym seen) c.self.invariant) (c.len-more.ensures.room, tt))

pub returns-then-has_room-clause-added : goal.returns-then-has_room-clause-added
returns-then-has_room-clause-added c =
    let seen : c.in-Many.row.views ≡ c.self.inside.pieces = ap views (sym c.in-Many.is)
    ∙ ap (λ (s : Inside). s.pieces) c.self-inside.view_is in
    let pieced = pieced-as c.in-Many.is c.self-inside.invariant in
    let shown = ap of_pieces seen ∙ c.self.view_is in
    let len = length-row c.in-Many.row.views _ pieced shown in (
      behind-row c.in-Many.row.views _ pieced shown _ c.args.piece
          (omega (arith, c.if-more-ne0.true, c.len-more.ensures.value)) c.push_back_reserved.ensures.pushed,
      omega (arith, len, c.len-len.ensures.value, c.len-more.ensures.value, c.if-more-len.true),
    )
