use Rattle.std.proofs.Common.{◌≡◌, ◌+◌, drop}
use Rattle.iobufs_run.specs.Causes.{inline_len}
use Rattle.iobufs_run.proofs.table.build.pass.Given as goal

-- `room` is the capacity minus the inline bytes so far
abbrev pub invariant-loop-item : goal.invariant-loop-item
invariant-loop-item l = l.room + inline_len l.items ≡ l.capacity + inline_len (drop l.item-index l.items)
