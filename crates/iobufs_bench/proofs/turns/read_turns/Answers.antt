use Rattle.std.proofs.Common.{List, ℕ, length, arith, ap, length-take}
use Rattle.iobufs_bench.proofs.turns.read_turns.Goals as goal

pub advance-requires : goal.advance-requires
advance-requires g c =
    let text = g.B.Buf.text c.turns.buf in
    let chunk = c.chunk-chunk.result.now in
    omega (arith, ap (λ (xs : List ℕ). length xs) c.chunk-chunk.ensures.front.front, length-take (length chunk) text)
