use Rattle.std.proofs.Common.{◌≡◌, ◌≤◌, length, map, take, vec_len, vec_capacity}
use Rattle.iobufs_run.specs.Slots.{slot_named, part_held}
use Rattle.iobufs_run.specs.Run.{all_freed}
use Rattle.iobufs_run.proofs.table.gather.take_row.Given as goal

-- the sources so far are free, and their parts are in the row
abbrev pub invariant-loop-src : goal.invariant-loop-src
invariant-loop-src l = record {
  freed : l.slots ≡ all_freed l.fn.slots (take l.src-index l.sources);
  row : l.row.items ≡ map (λ src. part_held (slot_named l.fn.slots src)) (take l.src-index l.sources);
  count : vec_len l.row ≡ l.src-index;
  room : length l.sources ≤ vec_capacity l.row;
}
