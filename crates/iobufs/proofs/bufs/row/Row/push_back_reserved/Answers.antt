use Rattle.iobufs.proofs.Text.{ViewRow, ap, arith, length, pieces_bytes, row-push, sym, ◌%◌, ◌+◌, ◌^◌, ◌∙◌}
use Rattle.iobufs.proofs.bufs.row.Row.push_back_reserved.Goals as goal

pub invariant_of-self : goal.invariant_of-self
invariant_of-self c =
    let n = ap (λ (r : ViewRow). length (pieces_bytes r.views)) c.self.view_is in
    row-push c.self.inside.base _ _ _ c.args.piece c.self.invariant c.requires.some (omega (arith, c.requires.total))
    (ap (λ k. (c.self.inside.base + k) % 2 ^ 64) (c.requires.total
    ∙ ap (λ k. k + length c.args.piece.bytes) (sym n))) c.push_back_reserved.ensures.items
