use Rattle.iobufs.proofs.Text.{length, pieces_bytes, right_pieces, ◌<◌, ◌≡◌}
use Rattle.iobufs.proofs.bufs.row.Row.drop_front.Given as goal

abbrev pub invariant-loop-self : goal.invariant-loop-self
invariant-loop-self l =
    record {
      inside : l.left < length (pieces_bytes l.self.views);
      kept : right_pieces l.self.views l.left ≡ right_pieces l.fn.self.views l.n;
    }

abbrev pub decreases-loop-self : goal.decreases-loop-self
decreases-loop-self l = length l.self.views
