use Rattle.iobufs.proofs.Text.{length, pieces_bytes, views_in, ◌++◌, ◌+◌, ◌≡◌}
use Rattle.iobufs.proofs.bufs.row.put_all.Given as goal

-- the filled bytes and the chunks that are left are the bytes filled before the loop and all chunks
abbrev pub invariant-loop-piece : goal.invariant-loop-piece
invariant-loop-piece l =
    record {
      so_far : l.copy.filled ++ pieces_bytes (views_in l.left) ≡ l.initial.copy.filled ++ pieces_bytes (views_in l.entries);
      room : length l.copy.filled + l.copy.spare ≡ length l.initial.copy.filled + l.initial.copy.spare;
    }

abbrev pub decreases-loop-piece : goal.decreases-loop-piece
decreases-loop-piece l = length l.left
