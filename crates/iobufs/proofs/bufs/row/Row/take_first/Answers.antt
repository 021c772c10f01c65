use Rattle.iobufs.proofs.Text.{ap, option_to_list, row-pop, ◌++◌, ◌∙◌}
use Rattle.iobufs.proofs.bufs.row.Row.take_first.Goals as goal

pub invariant_of-self : goal.invariant_of-self
invariant_of-self g c =
    row-pop c.self.inside.base c.unwrap-piece.result c.pop_front.new.self.items _ c.self.invariant
    (c.pop_front.ensures.items ∙ ap (λ piece. option_to_list piece ++ c.pop_front.new.self.items) c.unwrap-piece.ensures)
