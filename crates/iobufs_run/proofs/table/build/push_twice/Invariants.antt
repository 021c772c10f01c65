use Rattle.std.proofs.Common.{◌≡◌, drop}
use Rattle.iobufs_run.specs.Causes.{has_twice, pushed_names}
use Rattle.iobufs_run.proofs.table.build.push_twice.Given as goal

-- none of the names so far stands again
abbrev pub invariant-loop-i : goal.invariant-loop-i
invariant-loop-i l = has_twice (pushed_names l.items) ≡ has_twice (pushed_names (drop l.i l.items))
