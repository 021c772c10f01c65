use Rattle.iobufs.proofs.Text.{deque_len, drop, length, parts_filled, parts_overwritten, take, ◌++◌, ◌≡◌}
use Rattle.iobufs.proofs.bufs_mut.several.copy_from_slice.Given as goal

abbrev pub invariant-loop-i : goal.invariant-loop-i
invariant-loop-i l =
    record {
      same_len : deque_len l.parts ≡ l.i-end;
      rest : length l.rest ≡ length (parts_filled (drop l.i l.parts.items));
      so_far : parts_overwritten l.initial.parts.items l.src ≡ take l.i l.parts.items ++ parts_overwritten (drop l.i l.parts.items) l.rest;
    }
