use Rattle.std.specs.Vec.{vec_capacity, vec_len}
use Rattle.iobufs.proofs.Text.{deque_iter_rest, parts_filled, take, ◌+◌, ◌++◌, ◌≡◌, ◌≤◌}
use Rattle.iobufs.proofs.bufs_mut.several.Several.copy_front.Given as goal

abbrev pub invariant-loop-part : goal.invariant-loop-part
invariant-loop-part l = record {
  some : l.rest ≤ l.n;
  room : vec_len l.bytes + l.rest ≤ vec_capacity l.bytes;
  so_far : take l.n (parts_filled l.fn.self) ≡ l.bytes.items ++ take l.rest (parts_filled (deque_iter_rest l.part-iterator));
}
