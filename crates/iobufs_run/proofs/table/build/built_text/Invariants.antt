use Rattle.std.proofs.Common.{drop}
use Rattle.iobufs_run.proofs.Built.{IsLeft}
use Rattle.iobufs_run.proofs.table.build.built_text.Given as goal

abbrev pub invariant-loop-item : goal.invariant-loop-item
invariant-loop-item l = IsLeft l.fn.slots l.capacity l.items l.slots l.builder (drop l.item-index l.items)
