use Rattle.iobufs.proofs.Text.{HaveNoSpare, deque_len, drop, parts_fill, take, ◌++◌, ◌≡◌}
use Rattle.iobufs.proofs.bufs_mut.several.put.Given as goal

abbrev pub invariant-loop-i : goal.invariant-loop-i
invariant-loop-i l =
    record {
      no_spare : HaveNoSpare l.i l.parts.items;
      same_len : deque_len l.parts ≡ l.i-end;
      so_far : parts_fill l.initial.parts.items l.src ≡ take l.i l.parts.items ++ parts_fill (drop l.i l.parts.items) l.left;
    }
