use Rattle.iobufs.proofs.Text.{deque_len, drop, parts_fill, replicate, take, ◌++◌, ◌≡◌}
use Rattle.iobufs.proofs.bufs_mut.several.put_bytes.Given as goal

abbrev pub invariant-loop-i : goal.invariant-loop-i
invariant-loop-i l =
    record {
      same_len : deque_len l.parts ≡ l.i-end;
      so_far : parts_fill l.initial.parts.items (replicate l.fn.n l.value) ≡ take l.i l.parts.items
          ++ parts_fill (drop l.i l.parts.items) (replicate l.rest l.value);
    }
