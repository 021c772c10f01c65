use Rattle.std.proofs.Common.{◌≡◌, ◌+◌, ◌^◌, drop}
use Rattle.iobufs_run.specs.Causes.{pushed_names, total_extent}
use Rattle.iobufs_run.proofs.table.build.are_too_long.Given as goal

-- `room` is the largest length minus the capacity and the extents of the names so far
abbrev pub invariant-loop-item : goal.invariant-loop-item
invariant-loop-item l = l.room + l.capacity + total_extent l.slots (pushed_names l.items) + 1
    ≡ 2 ^ 64 + total_extent l.slots (pushed_names (drop l.item-index l.items))
