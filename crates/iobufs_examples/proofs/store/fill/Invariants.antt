use Rattle.iobufs.specs.Sending.{IsStored}
use Rattle.iobufs.specs.Parts.{parts_spare}
use Rattle.iobufs_examples.proofs.store.fill.Given as goal

abbrev pub invariant-loop : goal.invariant-loop
invariant-loop g l = IsStored (g.R.Read.remaining l.fn.from) (g.R.Read.remaining l.from) l.fn.parts l.parts

abbrev pub decreases-loop : goal.decreases-loop
decreases-loop g l = parts_spare l.parts
