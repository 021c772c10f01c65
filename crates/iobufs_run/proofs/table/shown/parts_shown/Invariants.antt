use Rattle.std.proofs.Common.{◌≡◌, ◌-◌, map, take, length}
use Rattle.iobufs_core.specs.Part.{Part}
use Rattle.iobufs_run.specs.Slots.{shown_piece}
use Rattle.iobufs_run.proofs.table.shown.parts_shown.Given as goal

-- a piece for each part so far
abbrev pub invariant-loop-part : goal.invariant-loop-part
invariant-loop-part l = map shown_piece l.pieces.items ≡ map (λ (part : Part). (part.filled, part.spare))
    (take (length l.pieces.items) l.parts)

abbrev pub decreases-loop-part : goal.decreases-loop-part
decreases-loop-part l = length l.parts - length l.pieces.items
