use Rattle.iobufs.proofs.Text.{deque_capacity, deque_len, drop, take, ◌++◌, ◌+◌, ◌≡◌}
use Rattle.iobufs.proofs.bufs.row.move_front.Given as goal

abbrev pub invariant-loop : goal.invariant-loop
invariant-loop l =
    record {
      moved : l.front.items ≡ l.initial.front.items ++ take l.counter l.initial.row.items;
      left : l.row.items ≡ drop l.counter l.initial.row.items;
      len : deque_len l.row + l.counter ≡ deque_len l.initial.row;
      front_len : deque_len l.front ≡ deque_len l.initial.front + l.counter;
      capacity : deque_capacity l.row ≡ deque_capacity l.initial.row;
      front_capacity : deque_capacity l.front ≡ deque_capacity l.initial.front;
    }
