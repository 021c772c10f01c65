use Rattle.iobufs.proofs.Text.{AreViews, ap, arith, length-kept, of_pieces, prepend-pieces, subst, sym, ◌∙◌}
use Rattle.iobufs.proofs.bufs.IoBufs.prepend_any.Goals as goal

pub invariant_of-self-2 : goal.invariant_of-self-2
invariant_of-self-2 c = subst AreViews (sym c.in_default.ensures.done) (c.len-ahead.ensures.room, c.self.invariant)

pub returns-clause-added : goal.returns-clause-added
returns-clause-added c =
    (ap of_pieces c.in_default.ensures.done ∙ prepend-pieces _ _ _ c.self.view_is (omega arith) (omega arith), omega arith)

pub push_front-requires-clause-fits : goal.push_front-requires-clause-fits
push_front-requires-clause-fits c = omega (arith, length-kept c.self.inside _ c.self.view_is)

pub push_front-requires-clause-bytes : goal.push_front-requires-clause-bytes
push_front-requires-clause-bytes c = omega (arith, length-kept c.self.inside _ c.self.view_is)
