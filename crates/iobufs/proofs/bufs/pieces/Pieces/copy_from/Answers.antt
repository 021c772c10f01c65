use Rattle.iobufs.proofs.Text.{View, ap, arith, drop, filled-step, length, length-take-le, pieces_bytes, put_mid, same_len_mid, slice_from, sym, take, take-put_mid, ◌++◌, ◌+◌, ◌-◌, ◌∙◌, ◌≡◌}
use Rattle.iobufs.proofs.bufs.pieces.Pieces.copy_from.Goals as goal

pub loop-filled-preserved : goal.loop-filled-preserved
loop-filled-preserved c =
    let dst = c.loop-filled.dst in
    let f = c.loop-filled.filled in
    let o = c.loop-filled.offset in
    let k = c.min-some.result in
    let part = c.copy_from_slice.new.self in
    let all = c.as_ref.result.now in
    let bytes = take (length all - o) (drop o all) in
    let is = c.as_ref.ensures ∙ ap (λ (v : View). v.bytes) c.piece.ensures in
    let after = c.copy_from_slice.ensures.after in
    let some = c.loop-filled.invariant.some in
    let short = c.min-some.ensures in
    let count : length part ≡ k = ap length after ∙ length-take-le k bytes (omega (arith, short)) in
    let same = same_len_mid f (f + k - f) dst part c.copy_from_slice.ensures.len in
    let now = put_mid f (f + k - f) dst part in
    let taken = take-put_mid f (f + k - f) dst part (f + k) (omega (arith, count)) some ∙ ap (λ xs. take f dst ++ xs) after in
    let target = take (length dst) (drop c.args.from.offset (pieces_bytes (drop c.args.from.index c.args.self.now))) in
    let step = filled-step c.args.self.now c.loop-filled.index o f k dst now bytes target (omega arith) c.loop-filled.invariant.offset
    (slice_from o all ∙ ap (drop o) is) some c.loop-filled.invariant.left c.loop-filled.invariant.so_far short same taken in
    record {
      offset = omega arith;
      some = step.some;
      left = omega (arith, step.left);
      so_far = step.so_far ∙ ap (λ n. take n (drop c.args.from.offset (pieces_bytes (drop c.args.from.index c.args.self.now)))) (sym same);
    }
