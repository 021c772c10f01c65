use Rattle.std.proofs.Common.{◌≡◌, drop}
use Rattle.iobufs_run.specs.Causes.{has_twice}
use Rattle.iobufs_run.proofs.table.gather.has_twice.Given as goal

-- none of the names so far stands again
abbrev pub invariant-loop-i : goal.invariant-loop-i
invariant-loop-i l = has_twice l.names ≡ has_twice (drop l.i l.names)
