use Rattle.iobufs.proofs.Text.{deque_iter_rest, length, parts_filled, take, ◌++◌, ◌-◌, ◌≡◌, ◌≤◌}
use Rattle.iobufs.proofs.bufs_mut.several.Several.read.Given as goal

abbrev pub invariant-loop-part : goal.invariant-loop-part
invariant-loop-part l = record {
  within : l.at ≤ length l.dst;
  so_far : take (length l.dst) (parts_filled l.fn.self) ≡ take l.at l.dst
      ++ take (length l.dst - l.at) (parts_filled (deque_iter_rest l.part-iterator));
}
