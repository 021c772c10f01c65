use Rattle.std.proofs.Common.{◌≡◌, ◌^◌, ◌<◌, ◌+◌, ◌*◌, ◌⊎◌, ◌∙◌, inr, arith, ap, sym, Some, subst}
use Rattle.std.specs.Prelude.{slice_get, drop}
use Rattle.iobufs_core.proofs.Reading.{IsSoFar, more_so_far, ends, small, still_open, zero_behind, tenth_one, tenth_other, end_from_none}
use Rattle.iobufs_core.proofs.codec.length.long_length_at.Goals as goal

pub returns-in_default-clause-err : goal.returns-in_default-clause-err
returns-in_default-clause-err g c =
    let text = drop c.args.skip (g.B.Buf.text c.args.buf.now) in
    let end = end_from_none text c.loop-i.i (sym c.byte_behind.ensures ∙ c.in_default.is) in
    still_open text c.loop-i.i c.loop-i.value c.loop-i.place c.loop-i.invariant (omega arith) end

pub returns-then-byte-eq0-clause-err : goal.returns-then-byte-eq0-clause-err
returns-then-byte-eq0-clause-err g c =
    let text = drop c.args.skip (g.B.Buf.text c.args.buf.now) in
    let at : slice_get text c.loop-i.i ≡ Some 0 = sym c.byte_behind.ensures ∙ c.in-Some.is ∙ ap Some c.if-byte-eq0.true in
    zero_behind text c.loop-i.i c.loop-i.value c.loop-i.place c.loop-i.invariant (omega arith) at

pub overflow_mul-result : goal.overflow_mul-result
overflow_mul-result g c =
    let text = drop c.args.skip (g.B.Buf.text c.args.buf.now) in
    let fits = small text c.loop-i.i c.loop-i.value c.loop-i.place c.from.result c.loop-i.invariant (omega arith) (omega arith) in
    omega (arith, fits.product)

pub overflow_add-result : goal.overflow_add-result
overflow_add-result g c =
    let text = drop c.args.skip (g.B.Buf.text c.args.buf.now) in
    let fits = small text c.loop-i.i c.loop-i.value c.loop-i.place c.from.result c.loop-i.invariant (omega arith) (omega arith) in
    omega (arith, fits.sum)

pub returns-then-byte-lt128-clause-ok : goal.returns-then-byte-lt128-clause-ok
returns-then-byte-lt128-clause-ok g c =
    let text = drop c.args.skip (g.B.Buf.text c.args.buf.now) in
    let fits = small text c.loop-i.i c.loop-i.value c.loop-i.place c.from.result c.loop-i.invariant (omega arith) (omega arith) in
    let at : slice_get text c.loop-i.i ≡ Some c.from.result = sym c.byte_behind.ensures ∙ c.in-Some.is ∙ ap Some (sym c.from.ensures) in
    let some : (c.loop-i.i ≡ 0) ⊎ (0 < c.from.result) = let ne = c.if-byte-eq0.false in inr (omega arith) in
    ends text c.loop-i.i c.loop-i.value c.loop-i.place c.from.result c.loop-i.invariant at (omega arith) some (omega (arith, fits.sum))

pub overflow_mul-value : goal.overflow_mul-value
overflow_mul-value g c =
    let text = drop c.args.skip (g.B.Buf.text c.args.buf.now) in
    let fits = small text c.loop-i.i c.loop-i.value c.loop-i.place c.from-in-loop-i.result c.loop-i.invariant (omega arith) (omega arith) in
    omega (arith, fits.product)

pub overflow_add-value : goal.overflow_add-value
overflow_add-value g c =
    let text = drop c.args.skip (g.B.Buf.text c.args.buf.now) in
    let fits = small text c.loop-i.i c.loop-i.value c.loop-i.place c.from-in-loop-i.result c.loop-i.invariant (omega arith) (omega arith) in
    omega (arith, fits.sum)

pub overflow_mul-place : goal.overflow_mul-place
overflow_mul-place g c =
    let text = drop c.args.skip (g.B.Buf.text c.args.buf.now) in
    let fits = small text c.loop-i.i c.loop-i.value c.loop-i.place 0 c.loop-i.invariant (omega arith) (omega arith) in
    omega (arith, fits.factor)

pub loop-i-preserved : goal.loop-i-preserved
loop-i-preserved g c =
    let text = drop c.args.skip (g.B.Buf.text c.args.buf.now) in
    let at : slice_get text c.loop-i.i ≡ Some c.in-Some.byte = sym c.byte_behind.ensures ∙ c.in-Some.is in
    let next = more_so_far text c.loop-i.i c.loop-i.value c.loop-i.place c.in-Some.byte c.loop-i.invariant at c.if-byte-lt128.false
    (omega arith) in
    subst (λ low. IsSoFar text (c.loop-i.i + 1) (c.loop-i.value + c.loop-i.place * low) (c.loop-i.place * 128))
    (sym c.from-in-loop-i.ensures) next

pub returns-in-None-clause-err : goal.returns-in-None-clause-err
returns-in-None-clause-err g c =
    let text = drop c.args.skip (g.B.Buf.text c.args.buf.now) in
    let end = end_from_none text 9 (sym c.byte_behind-2.ensures ∙ c.in-None.is) in
    still_open text c.loop-i.i c.loop-i.value c.loop-i.place c.loop-i.invariant (omega arith) (omega arith)

pub returns-in-Some-eq1-clause-ok : goal.returns-in-Some-eq1-clause-ok
returns-in-Some-eq1-clause-ok g c =
    let text = drop c.args.skip (g.B.Buf.text c.args.buf.now) in
    let one : slice_get text 9 ≡ Some 1 = sym c.byte_behind-2.ensures ∙ c.in-Some-eq1.is ∙ ap Some c.in-Some-eq1.field-0-test in
    tenth_one text c.loop-i.i c.loop-i.value c.loop-i.place c.loop-i.invariant (omega arith) one

pub returns-in-Some-byte_behind-clause-err : goal.returns-in-Some-byte_behind-clause-err
returns-in-Some-byte_behind-clause-err g c =
    let text = drop c.args.skip (g.B.Buf.text c.args.buf.now) in
    let at : slice_get text 9 ≡ Some c.in-Some-byte_behind.field-0 = sym c.byte_behind-2.ensures ∙ c.in-Some-byte_behind.is in
    tenth_other text c.loop-i.i c.loop-i.value c.loop-i.place c.in-Some-byte_behind.field-0 c.loop-i.invariant (omega arith) at
    c.in-Some-byte_behind.field-0-test.1

pub overflow_add-result-in-Some-eq1 : goal.overflow_add-result-in-Some-eq1
overflow_add-result-in-Some-eq1 g c =
    let nine : c.loop-i.i ≡ 9 = omega arith in
    let place_is : c.loop-i.place ≡ 2 ^ 63 = c.loop-i.invariant.place_is ∙ ap (λ i. 128 ^ i) nine in
    omega (arith, c.loop-i.invariant.below)
