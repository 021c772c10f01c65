use Rattle.iobufs.proofs.Text.{deque_iter_rest, map, parts_chunks, take, vec_len, ◌++◌, ◌-◌, ◌≡◌, ◌≤◌}
use Rattle.iobufs.proofs.bufs_mut.several.Several.chunks.Given as goal

abbrev pub invariant-loop-part : goal.invariant-loop-part
invariant-loop-part l = record {
  few : vec_len l.chunks ≤ l.max;
  so_far : take l.max (parts_chunks l.fn.self) ≡ map (λ chunk. chunk.now) l.chunks.items
      ++ take (l.max - vec_len l.chunks) (parts_chunks (deque_iter_rest l.part-iterator));
}
