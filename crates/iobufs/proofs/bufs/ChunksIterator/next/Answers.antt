use Rattle.iobufs.proofs.Text.{Some, add-one, ap, drop, drop-cons, get_or_from_slice_get, slice_get, slice_get_within, suc, sym, text_chunks, ◌∙◌, ◌∷◌, ◌≡◌}
use Rattle.iobufs.proofs.bufs.ChunksIterator.next.Goals as goal

pub returns-clause-steps : goal.returns-clause-steps
returns-clause-steps c =
    let all = text_chunks c.self.inside.text.now in
    let i = c.self.inside.next in
    let chunk = c.in_ok-chunk.chunk.now in
    let got : slice_get all i ≡ Some chunk = sym c.in_ok-chunk.ensures in
    sym c.self.view_is ∙ drop-cons all i chunk (slice_get_within all i chunk got)
    ∙ ap (λ first. first ∷ drop (suc i) all) (get_or_from_slice_get all i chunk chunk got)
    ∙ ap (λ n. chunk ∷ drop n all) (sym (add-one i))
