use Rattle.iobufs.proofs.Text.{deque_capacity, deque_len, drop, filled, length, segments_in, take, ◌≡◌, ◌≤◌}
use Rattle.iobufs.proofs.Building.{IsFilling}
use Rattle.iobufs.proofs.bufs.row.gaps.Gapped.fill.Given as goal

abbrev pub invariant-loop-i : goal.invariant-loop-i
invariant-loop-i l = record {
  count : deque_len l.entries ≡ deque_len l.initial.entries;
  room : deque_capacity l.entries ≡ deque_capacity l.initial.entries;
  left : length l.rest.bytes ≤ length l.initial.rest.bytes;
  filling : IsFilling (filled l.initial.rest (segments_in l.initial.entries.items)) (take l.i l.entries.items)
      (drop l.i l.entries.items) l.rest l.end;
}
