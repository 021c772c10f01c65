use Rattle.iobufs.proofs.Text.{IsMatched, bytes_behind, piece_at, view_len, ◌-◌, ◌≤◌}
use Rattle.iobufs.proofs.bufs.pieces.Pieces.matched.Given as goal

abbrev pub invariant-loop-index : goal.invariant-loop-index
invariant-loop-index l =
    record {
      offset : l.offset ≤ view_len (piece_at l.self l.index);
      matched : IsMatched (bytes_behind l.self l.fn.from.index l.fn.from.offset) l.bytes l.left (bytes_behind l.self l.index l.offset);
    }

abbrev pub decreases-loop-index : goal.decreases-loop-index
decreases-loop-index l = l.count - l.index
