use Rattle.std.proofs.Common.{ℕ, ◌<◌}
use Rattle.iobufs_run.specs.Slots.{IsSlot, slot_named}
use Rattle.iobufs_run.proofs.table.are_well_formed.Given as goal

-- each name so far
abbrev pub invariant-loop-slot : goal.invariant-loop-slot
invariant-loop-slot l = (name : ℕ) → name < l.slot-index → IsSlot (slot_named l.slots name)
