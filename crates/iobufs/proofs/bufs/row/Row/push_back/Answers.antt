use Rattle.iobufs.proofs.Text.{IsRow, subst, sym}
use Rattle.iobufs.proofs.bufs.row.Row.push_back.Goals as goal

pub invariant_of-self : goal.invariant_of-self
invariant_of-self c = subst (IsRow c.self.inside.base) (sym c.try_reserve.ensures.items) c.self.invariant
