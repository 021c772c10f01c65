use Rattle.iobufs.proofs.Text.{drop, length, piece_at, pieces_bytes, take, ◌++◌, ◌+◌, ◌-◌, ◌≡◌, ◌≤◌}
use Rattle.iobufs.proofs.bufs.pieces.Pieces.copied.Given as goal

abbrev pub invariant-loop-offset : goal.invariant-loop-offset
invariant-loop-offset l =
    record {
      offset : l.offset ≤ length (piece_at l.self l.index).bytes;
      room : length l.copy.filled + l.copy.spare ≡ l.n;
      left : l.n - length l.copy.filled + l.offset ≤ length (pieces_bytes (drop l.index l.self));
      so_far : l.copy.filled ++ take (l.n - length l.copy.filled) (drop l.offset (pieces_bytes (drop l.index l.self)))
          ≡ take l.n (drop l.fn.from.offset (pieces_bytes (drop l.fn.from.index l.self)));
    }

abbrev pub decreases-loop-offset : goal.decreases-loop-offset
decreases-loop-offset l = l.count - l.index
