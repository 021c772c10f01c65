use Rattle.iobufs.proofs.Text.{Inside, ahead-row, ap, arith, length-row, of_pieces, pieced-as, sym, views, ◌∙◌, ◌≡◌}
use Rattle.iobufs.proofs.bufs.IoBufs.prepend.Goals as goal

pub returns-then-has_room-clause-added : goal.returns-then-has_room-clause-added
returns-then-has_room-clause-added c =
    let seen : c.in-Many.row.views ≡ c.self.inside.pieces = ap views (sym c.in-Many.is)
    ∙ ap (λ (s : Inside). s.pieces) c.self-inside.view_is in
    let pieced = pieced-as c.in-Many.is c.self-inside.invariant in
    let shown = ap of_pieces seen ∙ c.self.view_is in
    let len = length-row c.in-Many.row.views _ pieced shown in (
      ahead-row c.in-Many.row.views _ pieced shown _ c.args.piece
          (omega (arith, c.if-ahead-ne0.true, c.len-ahead.ensures.value)) c.push_front_reserved.ensures.pushed,
      omega (arith, len, c.len-len.ensures.value, c.len-ahead.ensures.value, c.if-ahead-len.true),
    )
