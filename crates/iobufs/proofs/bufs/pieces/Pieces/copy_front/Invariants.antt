use Rattle.std.specs.Vec.{vec_capacity}
use Rattle.iobufs.proofs.Text.{drop, length, pieces_bytes, take, ◌++◌, ◌-◌, ◌≡◌, ◌≤◌}
use Rattle.iobufs.proofs.bufs.pieces.Pieces.copy_front.Given as goal

abbrev pub invariant-loop-bytes : goal.invariant-loop-bytes
invariant-loop-bytes l =
    record {
      room : l.n ≤ vec_capacity l.copy;
      some : length l.copy.items ≤ l.n;
      left : l.n - length l.copy.items ≤ length (pieces_bytes (drop l.index l.self));
      so_far : l.copy.items ++ take (l.n - length l.copy.items) (pieces_bytes (drop l.index l.self)) ≡ take l.n (pieces_bytes l.self);
    }

abbrev pub decreases-loop-bytes : goal.decreases-loop-bytes
decreases-loop-bytes l = l.count - l.index
