use Rattle.std.proofs.Common.{◌≡◌, drop}
use Rattle.std.specs.List.{list_any}
use Rattle.iobufs_run.specs.Causes.{is_no_name, pushed_names}
use Rattle.iobufs_run.proofs.table.build.push_no_name.Given as goal

-- no name so far is missing
abbrev pub invariant-loop-item : goal.invariant-loop-item
invariant-loop-item l = list_any (is_no_name l.slots) (pushed_names l.items) ≡ list_any (is_no_name l.slots)
    (pushed_names (drop l.item-index l.items))
