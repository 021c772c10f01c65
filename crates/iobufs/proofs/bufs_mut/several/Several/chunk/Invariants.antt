use Rattle.iobufs.proofs.Text.{deque_iter_rest, first_chunk, parts_chunks, ◌≡◌}
use Rattle.iobufs.proofs.bufs_mut.several.Several.chunk.Given as goal

abbrev pub invariant-loop-part : goal.invariant-loop-part
invariant-loop-part l = first_chunk (parts_chunks l.fn.self) ≡ first_chunk (parts_chunks (deque_iter_rest l.part-iterator))
