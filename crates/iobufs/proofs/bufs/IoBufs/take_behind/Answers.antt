use Rattle.iobufs.proofs.Text.{View, ap, false≢true, length, subst, sym, taken_view, taken_view-none, ◌∙◌}
use Rattle.iobufs.proofs.bufs.IoBufs.take_behind.Goals as goal

pub returns-in_err-made-clause-nothing : goal.returns-in_err-made-clause-nothing
returns-in_err-made-clause-nothing g c = λ none.
    let empty = c.in_ok-view.ensures.ok ∙ ap (taken_view c.args.self.now c.args.skip) none ∙ taken_view-none c.args.skip c.args.self.now in
    absurd (false≢true (c.in_err-made.ensures.nothing (ap (λ (v : View). length v.bytes) empty)))

pub returns-in_err-view-clause-static_text : goal.returns-in_err-view-clause-static_text
returns-in_err-view-clause-static_text g c = λ static free. absurd (false≢true (c.in_err-view.ensures.static_text static))

pub returns-in_err-made-clause-static_text : goal.returns-in_err-made-clause-static_text
returns-in_err-made-clause-static_text g c = λ static free.
    absurd (false≢true (c.in_err-made.ensures.free (subst (λ view. g.T.OwnedBytes.is_free view) (sym c.in_ok-view.ensures.ok) free)))
