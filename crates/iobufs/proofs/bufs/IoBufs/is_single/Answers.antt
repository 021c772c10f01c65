use Rattle.iobufs.proofs.Text.{ap, nat_eq, single-kept, sym, ◌∙◌}
use Rattle.iobufs.proofs.bufs.IoBufs.is_single.Goals as goal

pub returns : goal.returns
returns c = ap (λ n. nat_eq n 1) c.count.ensures.value ∙ sym (single-kept _ _ c.self.view_is c.count.ensures.pieces)
