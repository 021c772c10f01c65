use Rattle.iobufs.proofs.Text.{ViewRow, ap, end-of_last, length, pieces_bytes, refl, ◌∙◌}
use Rattle.iobufs.proofs.bufs.row.Row.len.Goals as goal

pub returns-in-Some-clause-value : goal.returns-in-Some-clause-value
returns-in-Some-clause-value c =
    let row = c.self.inside.entries in
    end-of_last c.self.inside.base _ row.items c.in-Some.piece.now c.self.invariant
    (c.in-Some.ensures.variant.0 refl) row.ok.0 c.in-Some.ensures.lookup
    ∙ ap (λ (r : ViewRow). length (pieces_bytes r.views)) c.self.view_is
