use Rattle.iobufs.proofs.Text.{ap, of_pieces, of_pieces-one, single-more, sym, ◌∙◌}
use Rattle.iobufs.proofs.bufs.IoBufs.try_into_single.Goals as goal

pub returns-in-Ok : goal.returns-in-Ok
returns-in-Ok c = sym c.self.view_is ∙ ap of_pieces c.in-Ok.ensures ∙ of_pieces-one _

pub returns-in-Err : goal.returns-in-Err
returns-in-Err c = (ap of_pieces c.in-Err.ensures.0 ∙ c.self.view_is, single-more _ _ c.self.view_is c.in-Err.ensures.1)
