use Rattle.std.proofs.Common.{◌≡◌, drop}
use Rattle.std.specs.List.{list_all}
use Rattle.iobufs_run.specs.Slots.{slot_named, is_view}
use Rattle.iobufs_run.specs.Causes.{pushed_names}
use Rattle.iobufs_run.proofs.table.build.push_views.Given as goal

-- each name so far holds a view
abbrev pub invariant-loop-item : goal.invariant-loop-item
invariant-loop-item l = list_all (λ src. is_view (slot_named l.slots src)) (pushed_names l.items)
    ≡ list_all (λ src. is_view (slot_named l.slots src)) (pushed_names (drop l.item-index l.items))
