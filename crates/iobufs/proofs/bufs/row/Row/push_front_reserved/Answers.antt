use Rattle.iobufs.proofs.Text.{ViewRow, ap, arith, length, pieces_bytes, row-cons, ◌%◌, ◌+◌, ◌-◌, ◌^◌}
use Rattle.iobufs.proofs.bufs.row.Row.push_front_reserved.Goals as goal

pub invariant_of-self : goal.invariant_of-self
invariant_of-self c =
    let n = ap (λ (r : ViewRow). length (pieces_bytes r.views)) c.self.view_is in
    row-cons c.self.inside.base _ _ _ c.args.piece c.self.invariant c.requires.some (omega (arith, c.requires.fits))
    (ap (λ l. (c.self.inside.base + (2 ^ 64 - l)) % 2 ^ 64) c.requires.ahead) c.push_front_reserved.ensures.items
