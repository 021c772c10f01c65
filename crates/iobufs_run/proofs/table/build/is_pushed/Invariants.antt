use Rattle.std.proofs.Common.{◌≡◌, drop}
use Rattle.iobufs_run.specs.Causes.{is_listed, pushed_names}
use Rattle.iobufs_run.proofs.table.build.is_pushed.Given as goal

-- the name isn't among those so far
abbrev pub invariant-loop-item : goal.invariant-loop-item
invariant-loop-item l = is_listed (pushed_names l.items) l.name ≡ is_listed (pushed_names (drop l.item-index l.items)) l.name
