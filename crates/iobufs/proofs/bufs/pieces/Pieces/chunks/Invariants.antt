use Rattle.iobufs.proofs.Text.{map, take, ◌≡◌}
use Rattle.iobufs.proofs.bufs.pieces.Pieces.chunks.Given as goal

abbrev pub invariant-loop-index : goal.invariant-loop-index
invariant-loop-index l = map (λ chunk. chunk.now) l.chunks.items ≡ take l.index (map (λ piece. piece.bytes) l.self)
