use Rattle.std.proofs.Common.{◌≡◌, ◌++◌, ◌≤◌, ◌^◌, ◌<◌, SomeIff, length, length-append, drop, suc, take, ap, arith, sym, subst, ◌∙◌}
use Rattle.std.proofs.lemmas.List.{take_all}
use Rattle.std.specs.List.{flat_map}
use Rattle.iobufs_codec.proofs.Turns.{turn}
use Rattle.iobufs_codec.proofs.list.each_size.Goals as goal

pub returns-in_err-encode_size : goal.returns-in_err-encode_size
returns-in_err-encode_size g c =
    let w = g.T.EncodeSize.written in
    let xs = c.args.values.now in
    let i = c.loop-value.value-index in
    let x = c.value-item.result in
    let all = length (flat_map w xs) in
    let step = turn w xs i x (omega (arith, c.loop-value-test.true, c.loop-value.auto.value-index-end)) (sym c.value-item.is) in
    let whole = ap length step.whole in
    let parts = length-append (flat_map w (take i xs)) (w x ++ flat_map w (drop (suc i) xs)) in
    let more = length-append (w x) (flat_map w (drop (suc i) xs)) in
    subst (λ r. SomeIff r (all < 2 ^ 64) all) (sym c.from_residual.ensures)
    (λ fits. c.in_err-encode_size.ensures (omega (arith, whole, parts, more, fits)))

pub returns-in_err-size : goal.returns-in_err-size
returns-in_err-size g c =
    let w = g.T.EncodeSize.written in
    let xs = c.args.values.now in
    let i = c.loop-value.value-index in
    let x = c.value-item.result in
    let all = length (flat_map w xs) in
    let step = turn w xs i x (omega (arith, c.loop-value-test.true, c.loop-value.auto.value-index-end)) (sym c.value-item.is) in
    let whole = ap length step.whole in
    let parts = length-append (flat_map w (take i xs)) (w x ++ flat_map w (drop (suc i) xs)) in
    let more = length-append (w x) (flat_map w (drop (suc i) xs)) in
    let len = c.in_ok-encode_size.ensures in
    subst (λ r. SomeIff r (all < 2 ^ 64) all) (sym c.from_residual-in_err-size.ensures)
    (λ fits. c.in_err-size.ensures (omega (arith, whole, parts, more, fits, len.1, c.loop-value.invariant.size)))

pub returns : goal.returns
returns g c =
    let w = g.T.EncodeSize.written in
    let xs = c.args.values.now in
    let i = c.loop-value.value-index in
    let end : length xs ≤ i = omega (arith, c.loop-value-test.false, c.loop-value.auto.value-index-end) in
    let whole : c.loop-value.size ≡ length (flat_map w xs) = c.loop-value.invariant.size
    ∙ ap (λ ys. length (flat_map w ys)) (take_all i xs end) in
    (omega (arith, whole, c.loop-value.invariant.fits), whole)
