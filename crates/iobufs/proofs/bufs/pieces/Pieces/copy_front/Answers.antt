use Rattle.iobufs.proofs.Text.{View, ap, arith, copied-step, length, length-take, min, refl, ◌-◌, ◌∙◌}
use Rattle.iobufs.proofs.bufs.pieces.Pieces.copy_front.Goals as goal

pub loop-bytes-preserved : goal.loop-bytes-preserved
loop-bytes-preserved c =
    let l = c.loop-bytes in
    let copy = l.copy.items in
    let bytes = c.as_ref-bytes.result.now in
    let is = c.as_ref-bytes.ensures ∙ ap (λ (v : View). v.bytes) c.piece.ensures in
    let count = c.min-some.ensures ∙ ap (λ n. min (length bytes) (c.args.n - n)) (c.len-in-loop-bytes.ensures ∙ l.copy.ok.0) in
    let step =
    copied-step c.args.self.now l.index 0 c.args.n (length copy) c.min-some.result copy c.put_reserved.new.copy.items bytes _
    (omega arith) (omega arith) is l.invariant.some refl (omega (arith, l.invariant.left)) l.invariant.so_far count
    c.put_reserved.ensures.items in
    record {
      some = step.some;
      left = step.left;
      so_far = step.so_far;
      room = omega (arith, l.invariant.room, c.put_reserved.ensures.capacity);
    }

pub put_reserved-requires : goal.put_reserved-requires
put_reserved-requires c =
    let l = c.loop-bytes in
    omega (
      arith,
      l.invariant.room,
      l.invariant.some,
      length-take c.min-some.result c.as_ref-bytes.result.now,
      c.min-some.ensures,
      c.len-in-loop-bytes.ensures,
      l.copy.ok.0,
    )
