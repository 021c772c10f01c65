use Rattle.iobufs.proofs.Text.{View, ap, first-kept, front-chunk, ◌∙◌}
use Rattle.iobufs.proofs.bufs.reading.IoBufsBuf.chunk.Goals as goal

pub returns-clause-first : goal.returns-clause-first
returns-clause-first c = c.as_ref.ensures ∙ ap (λ (v : View). v.bytes) c.first.ensures.value
    ∙ first-kept _ _ c.self.view_is c.first.ensures.pieces

pub returns-clause-front : goal.returns-clause-front
returns-clause-front c = front-chunk _ _ _ c.self.view_is c.first.ensures.pieces
    (c.as_ref.ensures ∙ ap (λ (v : View). v.bytes) c.first.ensures.value)
