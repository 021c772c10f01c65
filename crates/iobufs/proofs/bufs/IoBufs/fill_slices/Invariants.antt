use Rattle.std.proofs.Common.{◌≡◌, ◌≤◌, ◌-◌, length, map, take}
use Rattle.std.specs.Io.Slices.{io_slice_bytes}
use Rattle.iobufs_core.specs.MarkedText.{text_chunks}
use Rattle.iobufs.proofs.bufs.IoBufs.fill_slices.Given as goal

abbrev pub invariant-loop-count : goal.invariant-loop-count
invariant-loop-count l = record {
  room : length l.dst ≡ length l.fn.dst;
  within : l.count ≤ length l.dst;
  chunks : map io_slice_bytes (take l.count l.dst) ≡ take l.count (text_chunks l.fn.self);
}

abbrev pub decreases-loop-count : goal.decreases-loop-count
decreases-loop-count l = length l.dst - l.count
