use Rattle.std.proofs.Common.{◌≡◌, ◌-◌, map, take, length, List, ℕ}
use Rattle.iobufs_core.specs.MarkedText.{text_chunks}
use Rattle.iobufs_run.specs.Slots.{shown_piece}
use Rattle.iobufs_run.proofs.table.shown.chunks.Given as goal

-- a piece for each chunk so far
abbrev pub invariant-loop-chunk : goal.invariant-loop-chunk
invariant-loop-chunk l = map shown_piece l.pieces.items ≡ map (λ (chunk : List ℕ). (chunk, 0))
    (take (length l.pieces.items) (text_chunks l.text))

abbrev pub decreases-loop-chunk : goal.decreases-loop-chunk
decreases-loop-chunk l = length (text_chunks l.text) - length l.pieces.items
