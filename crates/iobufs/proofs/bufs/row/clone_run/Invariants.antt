use Rattle.iobufs.proofs.Text.{deque_capacity, deque_len, drop, take, ◌++◌, ◌+◌, ◌≡◌}
use Rattle.iobufs.proofs.bufs.row.clone_run.Given as goal

abbrev pub invariant-loop-i : goal.invariant-loop-i
invariant-loop-i l =
    record {
      cloned : l.run.items ≡ l.initial.run.items ++ take l.i (drop l.first l.row.items);
      len : deque_len l.run ≡ deque_len l.initial.run + l.i;
      capacity : deque_capacity l.run ≡ deque_capacity l.initial.run;
    }
