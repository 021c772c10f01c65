use Rattle.std.proofs.Common.{◌≡◌, ℕ, ◌≤◌, List, length, drop, arith, ap, ◌∙◌, length-drop}
use Rattle.iobufs_bench.proofs.turns.take_turns.Goals as goal

pub turns-preserved : goal.turns-preserved
turns-preserved g c =
    let text = g.B.Buf.text c.turns.buf in
    let within : c.args.size ≤ length text = omega (arith, c.turns.invariant, c.if-left-size.false) in
    let rest : g.B.Buf.text c.copy_to_bytes.new.self ≡ drop c.args.size text =
    ap g.B.Buf.text c.in_ok-bytes.ensures.rest ∙ g.met.B.Buf.copies c.turns.buf c.args.size within in
    omega (arith, c.turns.invariant, ap (λ (xs : List ℕ). length xs) rest, length-drop c.args.size text)
