use Rattle.iobufs.proofs.Text.{AreViews, AreViews-behind, ap, arith, false≢true, first-kept, first-rest, first-whole, full-kept, length, length-behind, length-kept, subst, sym, ◌∙◌}
use Rattle.iobufs.proofs.bufs.IoBufs.take_first.Goals as goal

pub invariant_of-self-2 : goal.invariant_of-self-2
invariant_of-self-2 g c = subst AreViews (sym c.in_ok-made.ensures.left) (AreViews-behind _ c.self.invariant)

pub returns-clause-ok : goal.returns-clause-ok
returns-clause-ok g c =
    let s = c.self.inside in
    let n = c.requires.first ∙ sym (ap length (first-kept s.pieces _ c.self.view_is c.in_ok-made.ensures.pieces)) in
    subst (λ view. g.T.OwnedBytes.makes view c.in_ok-made.made) (sym (first-whole s.pieces _ c.args.n c.self.view_is c.requires.some n))
    c.in_ok-made.ensures.made

pub returns-clause-rest : goal.returns-clause-rest
returns-clause-rest g c =
    let s = c.self.inside in
    let n = c.requires.first ∙ sym (ap length (first-kept s.pieces _ c.self.view_is c.in_ok-made.ensures.pieces)) in
    let full = full-kept s _ c.self.view_is c.in_ok-made.ensures.pieces
    (omega (arith, n, c.requires.some, length-behind s.pieces, length-kept s _ c.self.view_is)) in
    first-rest s.pieces _ _ c.args.n c.self.view_is full c.requires.some n c.in_ok-made.ensures.left

pub returns-in_err-made-clause-free : goal.returns-in_err-made-clause-free
returns-in_err-made-clause-free g c = λ free.
    let s = c.self.inside in
    let n = c.requires.first ∙ sym (ap length (first-kept s.pieces _ c.self.view_is c.in_err-made.ensures.pieces)) in
    absurd
    (false≢true
    (c.in_err-made.ensures.free (subst (λ view. g.T.OwnedBytes.is_free view)
    (first-whole s.pieces _ c.args.n c.self.view_is c.requires.some n) free)))
