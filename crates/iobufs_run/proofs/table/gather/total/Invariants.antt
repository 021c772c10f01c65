use Rattle.std.proofs.Common.{◌≡◌, ◌<◌, ◌^◌, take}
use Rattle.std.specs.Prelude.{sum_by}
use Rattle.iobufs_run.specs.Slots.{slot_named, extent}
use Rattle.iobufs_run.proofs.table.gather.total.Given as goal

abbrev pub invariant-loop-name : goal.invariant-loop-name
invariant-loop-name l = record {
  sum : l.sum ≡ sum_by (λ name. extent (slot_named l.slots name)) (take l.name-index l.names);
  small : l.sum < 2 ^ 64;
}
