use Rattle.std.proofs.Common.{◌≡◌, ℕ, ◌≤◌, ◌++◌, List, length, drop, arith, ap, ◌∙◌, append_assoc, length-take, length-drop, take-append-drop}
use Rattle.iobufs_core.proofs.codec.buf_mut.BufMut.put.Goals as goal

pub loop-src-preserved : goal.loop-src-preserved
loop-src-preserved g c =
    let text = g.B.Buf.text c.loop-src.src in
    let chunk = c.chunk-chunk.result.now in
    let n = length chunk in
    let done = c.loop-src.invariant.done in
    let front = c.chunk-chunk.ensures.front.front in
    let within : n ≤ length text = omega (arith, ap (λ (xs : List ℕ). length xs) front, length-take n text) in
    let rest : g.B.Buf.text c.advance.new.self ≡ drop n text =
    ap g.B.Buf.text c.advance.ensures ∙ g.met.B.Buf.drops c.loop-src.src n within in
    let whole : chunk ++ g.B.Buf.text c.advance.new.self ≡ text =
    ap (λ xs. chunk ++ xs) rest ∙ ap (λ xs. xs ++ drop n text) front ∙ take-append-drop n text in
    let room = g.met.Self.BufMut.lessens c.loop-src.self c.put_slice.new.self chunk c.put_slice.ensures in record {
      done = done ++ chunk;
      filled = g.met.Self.BufMut.composes _ _ _ _ _ c.loop-src.invariant.filled c.put_slice.ensures;
      whole = append_assoc done chunk (g.B.Buf.text c.advance.new.self) ∙ ap (λ xs. done ++ xs) whole ∙ c.loop-src.invariant.whole;
      fits = rw rest (omega (arith, room, length-drop n text, c.loop-src.invariant.fits));
    }
