use Rattle.iobufs.proofs.Text.{View, ap, arith, chunks-step, ◌∙◌}
use Rattle.iobufs.proofs.bufs.pieces.Pieces.chunks.Goals as goal

pub loop-index-preserved : goal.loop-index-preserved
loop-index-preserved c =
    chunks-step (λ x. x.now) _ _ _ _ _ (omega arith) c.loop-index.invariant (c.as_ref.ensures ∙ ap (λ (v : View). v.bytes) c.piece.ensures)
    c.in_ok-push.ensures.items
