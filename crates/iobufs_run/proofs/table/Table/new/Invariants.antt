use Rattle.std.proofs.Common.{◌≡◌, replicate}
use Rattle.iobufs_run.specs.declared.table.Slot.TheVariants.{Free}
use Rattle.iobufs_run.proofs.table.Table.new.Given as goal

abbrev pub invariant-loop : goal.invariant-loop
invariant-loop l = l.slots.items ≡ replicate l.counter Free
