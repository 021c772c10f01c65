use Rattle.iobufs.proofs.Text.{MarkedText, ap, err_from_is_err_and, false≢true, fits-more, joined-push, length, pos_of_ne-zero, refl, refused-at, run_to_end, run_to_item, subst, sym, text_append, text_len, ◌<◌, ◌^◌, ◌∙◌}
use Rattle.iobufs.proofs.bufs.IoBufs.from_chunks.Goals as goal

pub loop-chunk-preserved : goal.loop-chunk-preserved
loop-chunk-preserved g c =
    let l = c.loop-chunk in
    let (added, fits) = c.in_ok-append.ensures.added in
    record {
      so_far = added ∙ ap (λ (x : MarkedText). text_append x c.in-Some.chunk) l.invariant.so_far
          ∙ sym (joined-push l.yielded c.in-Some.chunk);
      fits = fits-more l.text _ c.in-Some.chunk added fits;
    }

pub returns-in_err-append-clause-err : goal.returns-in_err-append-clause-err
returns-in_err-append-clause-err g c =
    let l = c.loop-chunk in
    let refused = c.in_err-append.ensures in
    let some : 0 < text_len l.text = pos_of_ne-zero (λ none. false≢true (refused.onto_nothing none)) in
    let more : 0 < length c.in-Some.chunk.bytes = pos_of_ne-zero (λ none. false≢true (refused.nothing none)) in
    let (error, told, cause) = err_from_is_err_and c.from_residual.result c.from_residual.ensures.1 in
    rw (told, cause) (
      run_to_item g.I.Iterator.next_gives _ l.yielded l.yielded_by c.in-Some.chunk c.in-Some.ensures.steps,
      refl,
      refused-at l.yielded c.in-Some.chunk l.text _ l.invariant.so_far l.invariant.fits some more refused.added.2,
    )

pub returns-clause-ok : goal.returns-clause-ok
returns-clause-ok g c = (
  run_to_end g.I.Iterator.next_gives _ c.loop-chunk.yielded c.loop-chunk.yielded_by c.in_default.ensures.steps,
  refl,
  refl,
  (
    subst (λ (text : MarkedText). text_len text < 2 ^ 64) c.loop-chunk.invariant.so_far c.loop-chunk.invariant.fits,
    c.loop-chunk.invariant.so_far,
  ),
)
