use Rattle.iobufs.proofs.Text.{drop, length, piece_at, pieces_bytes, take, ◌++◌, ◌+◌, ◌-◌, ◌≡◌, ◌≤◌}
use Rattle.iobufs.proofs.bufs.pieces.Pieces.copy_from.Given as goal

abbrev pub invariant-loop-filled : goal.invariant-loop-filled
invariant-loop-filled l =
    record {
      offset : l.offset ≤ length (piece_at l.self l.index).bytes;
      some : l.filled ≤ length l.dst;
      left : length l.dst - l.filled + l.offset ≤ length (pieces_bytes (drop l.index l.self));
      so_far : take l.filled l.dst ++ take (length l.dst - l.filled) (drop l.offset (pieces_bytes (drop l.index l.self)))
          ≡ take (length l.dst) (drop l.fn.from.offset (pieces_bytes (drop l.fn.from.index l.self)));
    }

abbrev pub decreases-loop-filled : goal.decreases-loop-filled
decreases-loop-filled l = l.count - l.index
