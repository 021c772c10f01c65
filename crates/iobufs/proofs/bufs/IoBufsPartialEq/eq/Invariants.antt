use Rattle.iobufs.proofs.Text.{IsMatched, bytes_behind, drop, piece_at, pieces_bytes, view_len, ◌≤◌}
use Rattle.iobufs.proofs.bufs.IoBufsPartialEq.eq.Given as goal

abbrev pub invariant-loop-index : goal.invariant-loop-index
invariant-loop-index l =
    let ours = l.self-inside.pieces in
    let theirs = l.other-inside.pieces in
    record {
      offset : l.reached.offset ≤ view_len (piece_at theirs l.reached.index);
      matched : IsMatched (pieces_bytes theirs) (pieces_bytes ours) (pieces_bytes (drop l.index ours))
          (bytes_behind theirs l.reached.index l.reached.offset);
    }
