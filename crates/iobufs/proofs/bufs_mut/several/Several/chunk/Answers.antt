use Rattle.iobufs.proofs.Text.{ap, first_chunk, nil_from_length, parts_chunks, sym, ◌∙◌}
use Rattle.iobufs.proofs.Parts.{chunks-order}
use Rattle.iobufs.proofs.bufs_mut.several.Several.chunk.Goals as goal

pub loop-part-init : goal.loop-part-init
loop-part-init c =
    let s = c.self.inside in
    cc (chunks-order s.row.items s.used c.self.invariant.behind, c.self.view_is, c.into_iter-part-iterator.ensures.into_iter_gives.0)

pub returns : goal.returns
returns c =
    sym (c.loop-part.invariant ∙ ap (λ ps. first_chunk (parts_chunks ps)) (nil_from_length _ c.in-None.ensures.steps.0))
