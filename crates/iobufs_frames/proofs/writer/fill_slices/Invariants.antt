use Rattle.std.proofs.Common.{◌≡◌, ◌≤◌, ◌<◌, ◌∷◌, ◌++◌, length, take}
use Rattle.std.specs.Io.Slices.{io_slices_bytes}
use Rattle.std.specs.VecDeque.Iter.{deque_iter_rest}
use Rattle.iobufs_frames.specs.Unsent.{IsFront, frames_bytes}
use Rattle.iobufs_frames.proofs.writer.fill_slices.Given as goal

-- the chunks of the first frames
abbrev pub invariant-loop-frame : goal.invariant-loop-frame
invariant-loop-frame l = record {
  room : length l.dst ≡ length l.fn.dst;
  few : l.count ≤ length l.dst;
  front : IsFront (io_slices_bytes (take l.count l.dst)) (frames_bytes (l.fn.rest ∷ l.fn.more.items));
  whole : l.count < length l.dst → io_slices_bytes (take l.count l.dst) ++ frames_bytes (deque_iter_rest l.frame-iterator)
      ≡ frames_bytes (l.fn.rest ∷ l.fn.more.items);
}
