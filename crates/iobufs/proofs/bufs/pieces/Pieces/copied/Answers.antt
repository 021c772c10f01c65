use Rattle.iobufs.proofs.Text.{Part, View, ap, arith, copied-step, drop, good_layout, length, length-append, length-take-le, min, only-cause, refl, slice_from, take, ◌-◌, ◌∙◌}
use Rattle.iobufs.proofs.bufs.pieces.Pieces.copied.Goals as goal

pub loop-offset-preserved : goal.loop-offset-preserved
loop-offset-preserved c =
    let copy = c.loop-offset.copy in
    let o = c.loop-offset.offset in
    let all = c.as_ref.result.now in
    let some = take (length all - o) (drop o all) in
    let bytes = c.as_ref.ensures ∙ ap (λ (v : View). v.bytes) c.piece.ensures in
    let put = ap (λ (p : Part). p.filled) c.put_slice.ensures.1 in
    let room = c.loop-offset.invariant.room in
    let count = c.min-some.ensures ∙ ap (λ n. min (length some) (c.args.n - n)) c.len-in-loop-offset.ensures in
    let step =
    copied-step c.args.self.now c.loop-offset.index o c.args.n
    (length copy.filled) c.min-some.result copy.filled c.put_slice.new.self.filled some _
    (omega arith) c.loop-offset.invariant.offset (slice_from o all ∙ ap (drop o) bytes) (omega arith) refl c.loop-offset.invariant.left
    c.loop-offset.invariant.so_far count put in
    let longer = ap length put ∙ length-append copy.filled (take c.min-some.result some) in
    let short = length-take-le c.min-some.result some (omega (arith, count)) in
    record {
      offset = omega arith;
      room = omega (arith, ap (λ (p : Part). p.spare) c.put_slice.ensures.1);
      left = omega (arith, step.left);
      so_far = step.so_far;
    }

pub returns-in_err-copy-clause-memory : goal.returns-in_err-copy-clause-memory
returns-in_err-copy-clause-memory c = λ l. only-cause c.from_residual.result _ _ c.from_residual.ensures.1
    (c.in_err-copy.ensures.good_layout (good_layout c.args.n l))
