use Rattle.iobufs.proofs.Text.{deque_len, drop, parts_with_len, take, ◌++◌, ◌≡◌}
use Rattle.iobufs.proofs.bufs_mut.several.set_len.Given as goal

abbrev pub invariant-loop-i : goal.invariant-loop-i
invariant-loop-i l =
    record {
      same_len : deque_len l.parts ≡ l.i-end;
      so_far : parts_with_len l.initial.parts.items l.fn.n ≡ take l.i l.parts.items ++ parts_with_len (drop l.i l.parts.items) l.rest;
    }
