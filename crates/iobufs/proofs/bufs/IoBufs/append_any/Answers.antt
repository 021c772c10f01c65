use Rattle.iobufs.proofs.Text.{AreViews, AreViews-append, ap, append-pieces, arith, length-kept, of_pieces, subst, sym, ◌∙◌}
use Rattle.iobufs.proofs.bufs.IoBufs.append_any.Goals as goal

pub invariant_of-self-2 : goal.invariant_of-self-2
invariant_of-self-2 c = subst AreViews (sym c.in_default.ensures.done) (AreViews-append _ _ c.self.invariant (c.len-more.ensures.room, tt))

pub returns-clause-added : goal.returns-clause-added
returns-clause-added c =
    (ap of_pieces c.in_default.ensures.done ∙ append-pieces _ _ _ c.self.view_is (omega arith) (omega arith), omega arith)

pub push_back-requires-clause-total : goal.push_back-requires-clause-total
push_back-requires-clause-total c = omega (arith, length-kept c.self.inside _ c.self.view_is)

pub push_back-requires-clause-bytes : goal.push_back-requires-clause-bytes
push_back-requires-clause-bytes c = omega (arith, length-kept c.self.inside _ c.self.view_is)
