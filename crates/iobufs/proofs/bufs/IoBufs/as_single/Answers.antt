use Rattle.iobufs.proofs.Text.{ap, of_pieces, of_pieces-one, of_view, one-as, one-piece, sym, ◌∙◌}
use Rattle.iobufs.proofs.bufs.IoBufs.as_single.Goals as goal

pub returns-then-is_single : goal.returns-then-is_single
returns-then-is_single c =
    let one = one-piece c.self.inside _ c.self.view_is c.first.ensures.pieces (sym c.is_single.ensures ∙ c.if-is_single.true) in
    sym c.self.view_is ∙ ap of_pieces (one-as _ one) ∙ of_pieces-one _ ∙ ap of_view (sym c.first.ensures.value)
