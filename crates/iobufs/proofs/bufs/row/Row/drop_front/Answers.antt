use Rattle.iobufs.proofs.Text.{List, View, ap, arith, length, length-append, piece_at, pieces_bytes, right_pieces, right_pieces-past, sym, view_len, ◌-◌, ◌≤◌, ◌∙◌}
use Rattle.iobufs.proofs.bufs.row.Row.drop_front.Goals as goal

pub loop-self-init : goal.loop-self-init
loop-self-init c =
    let first = c.pop_front.result in
    let rest = c.pop_front.new.self.views in
    let popped = c.pop_front.ensures in
    let n = c.args.n in
    let bytes = ap (λ (vs : List View). length (pieces_bytes vs)) popped ∙ length-append first.bytes (pieces_bytes rest) in
    let le : view_len first ≤ n = omega (arith, ap (λ (vs : List View). view_len (piece_at vs 0)) popped, c.requires.first) in
    record {
      inside = omega (arith, bytes, le, c.requires.inside, c.len.ensures.value);
      kept = ap (λ k. right_pieces rest (n - k)) c.len.ensures.value ∙ sym (right_pieces-past n first rest le)
          ∙ ap (λ (vs : List View). right_pieces vs n) (sym popped);
    }
