use Rattle.iobufs.proofs.Text.{deque_iter_rest, parts_filled, slice_get, ◌≡◌}
use Rattle.iobufs.proofs.bufs_mut.several.Several.byte_at.Given as goal

abbrev pub invariant-loop-part : goal.invariant-loop-part
invariant-loop-part l = slice_get (parts_filled l.fn.self) l.fn.i ≡ slice_get (parts_filled (deque_iter_rest l.part-iterator)) l.at
