use Rattle.iobufs.proofs.Text.{View, ap, length, taken_view, taken_view-none, ◌∙◌}
use Rattle.iobufs.proofs.bufs.reading.IoBufsPeek.peek_owned.Goals as goal

pub returns-clause-nothing : goal.returns-clause-nothing
returns-clause-nothing g c = λ none.
    let empty = c.in_ok-view.ensures.ok ∙ ap (taken_view c.args.self.now c.args.skip) none ∙ taken_view-none c.args.skip c.args.self.now in
    c.from_view.ensures.nothing (ap (λ (v : View). length v.bytes) empty)
