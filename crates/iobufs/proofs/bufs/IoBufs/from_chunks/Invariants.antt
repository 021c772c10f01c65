use Rattle.iobufs.proofs.Text.{joined, text_len, ◌<◌, ◌^◌, ◌≡◌}
use Rattle.iobufs.proofs.bufs.IoBufs.from_chunks.Given as goal

abbrev pub invariant-loop-chunk : goal.invariant-loop-chunk
invariant-loop-chunk g l =
    record {
      so_far : l.text ≡ joined l.yielded;
      fits : text_len l.text < 2 ^ 64;
    }
