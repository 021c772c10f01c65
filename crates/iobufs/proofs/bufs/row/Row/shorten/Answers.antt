use Rattle.iobufs.proofs.Text.{ltb-true, row-shorten, sym, ◌∙◌}
use Rattle.iobufs.proofs.bufs.row.Row.shorten.Goals as goal

pub invariant_of-self-2 : goal.invariant_of-self-2
invariant_of-self-2 c =
    let inside = ltb-true _ _ (sym c.drop_inside.ensures.answer ∙ c.if-not-drop_inside.false) in
    row-shorten c.self.inside.base c.args.n _ _ c.self.invariant inside (c.drop_inside.ensures.left c.if-not-drop_inside.false)
