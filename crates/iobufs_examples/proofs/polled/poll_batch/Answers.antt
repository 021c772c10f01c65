use Rattle.std.proofs.Common.{List, ℕ, ap, map, subst, ◌∙◌}
use Rattle.std.specs.Io.Slices.{io_slice_bytes}
use Rattle.tokio.specs.Io.Moved.{count_moved}
use Rattle.iobufs.proofs.CallerFacts.{front_of_chunks}
use Rattle.iobufs_examples.proofs.polled.poll_batch.Goals as goal

pub returns-in-Ok-clause-bound : goal.returns-in-Ok-clause-bound
returns-in-Ok-clause-bound g c = (front_of_chunks io_slice_bytes c.deref.result.now c.args.text.now 64
    (count_moved c.poll_write_vectored.result)
    (ap (map io_slice_bytes) c.deref.ensures.value ∙ c.in-Ok.ensures) c.poll_write_vectored.ensures.bound).0

pub returns-in-Ok-clause-bytes : goal.returns-in-Ok-clause-bytes
returns-in-Ok-clause-bytes g c =
    subst (λ (w : List ℕ). g.W.AsyncWrite.writes c.args.to.now w c.poll_write_vectored.new.self)
    (front_of_chunks io_slice_bytes c.deref.result.now c.args.text.now 64 (count_moved c.poll_write_vectored.result)
    (ap (map io_slice_bytes) c.deref.ensures.value
    ∙ c.in-Ok.ensures) c.poll_write_vectored.ensures.bound).1 c.poll_write_vectored.ensures.bytes
