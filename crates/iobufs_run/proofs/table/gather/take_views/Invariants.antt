use Rattle.std.proofs.Common.{◌≡◌, map, take}
use Rattle.iobufs_core.specs.MarkedText.{joined}
use Rattle.iobufs_run.specs.Slots.{slot_named, view_held}
use Rattle.iobufs_run.specs.Run.{all_freed}
use Rattle.iobufs_run.proofs.table.gather.take_views.Given as goal

-- the sources so far are free, and their views are in the text
abbrev pub invariant-loop-src : goal.invariant-loop-src
invariant-loop-src l = record {
  freed : l.slots ≡ all_freed l.fn.slots (take l.src-index l.sources);
  text : l.text ≡ joined (map (λ src. view_held (slot_named l.fn.slots src)) (take l.src-index l.sources));
}
