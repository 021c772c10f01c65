use Rattle.iobufs.proofs.Text.{deque_iter_rest, length, parts_filled, ◌++◌, ◌≡◌, ◌≤◌}
use Rattle.iobufs.proofs.bufs_mut.several.Several.coalesce.Given as goal

-- the bytes that are left fit, and make up all after those that were put
abbrev pub invariant-loop-part : goal.invariant-loop-part
invariant-loop-part l = record {
  fits : length (parts_filled (deque_iter_rest l.part-iterator)) ≤ l.whole.spare;
  so_far : l.whole.filled ++ parts_filled (deque_iter_rest l.part-iterator) ≡ parts_filled l.fn.self;
}
