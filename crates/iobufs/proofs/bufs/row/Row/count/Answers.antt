use Rattle.iobufs.proofs.Text.{AreFull, ViewRow, ap, subst}
use Rattle.iobufs.proofs.bufs.row.Row.count.Goals as goal

pub returns-clause-full : goal.returns-clause-full
returns-clause-full c = subst AreFull (ap (λ (r : ViewRow). r.views) c.self.view_is) c.self.invariant.full
