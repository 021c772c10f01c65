use Rattle.std.proofs.Common.{◌≡◌, ◌⊎◌, inl, inr, ◌++◌, ◌<◌, drop, suc, take, ap, arith, sym, subst, ◌∙◌}
use Rattle.std.specs.List.{flat_map}
use Rattle.iobufs_core.proofs.CallerFacts.{begun_behind, on_err_always}
use Rattle.iobufs_core.specs.Items.{IsBegun, items_inline, items_pushed}
use Rattle.iobufs_core.specs.SeveralLaws.{inline_append, pushed_append}
use Rattle.iobufs_codec.specs.Listed.{joins_each}
use Rattle.iobufs_core.specs.declared.codec.base.Error.TheVariants.{Memory, TooLong}
use Rattle.iobufs_codec.proofs.Behind.{refused_so}
use Rattle.iobufs_codec.proofs.Turns.{turn}
use Rattle.iobufs_codec.proofs.list.write_each_bufs.Goals as goal

pub write_bufs-requires : goal.write_bufs-requires
write_bufs-requires g c =
    let items = g.T.EncodeSize.items in
    let xs = c.args.values.now in
    let i = c.loop-value.value-index in
    let x = c.value-item.result in
    let step = turn items xs i x (omega (arith, c.loop-value-test.true, c.loop-value.auto.value-index-end)) (sym c.value-item.is) in
    let parts = inline_append (flat_map items (take i xs)) (items x ++ flat_map items (drop (suc i) xs)) in
    let more = inline_append (items x) (flat_map items (drop (suc i) xs)) in
    let room = g.met.B.BufsMut.uses _ _ _ c.loop-value.invariant in
    omega (arith, ap items_inline step.whole, parts, more, room, c.requires)

pub returns-in_err-write_bufs-clause-begun : goal.returns-in_err-write_bufs-clause-begun
returns-in_err-write_bufs-clause-begun g c =
    let w = g.T.EncodeSize.written in
    let items = g.T.EncodeSize.items in
    let xs = c.args.values.now in
    let i = c.loop-value.value-index in
    let x = c.value-item.result in
    let old = g.B.BufsMut.joined c.args.buf.now in
    let step = turn w xs i x (omega (arith, c.loop-value-test.true, c.loop-value.auto.value-index-end)) (sym c.value-item.is) in
    let after = g.met.B.BufsMut.adds _ _ _ c.loop-value.invariant
    ∙ ap (λ bytes. old ++ bytes) (joins_each w items g.met.T.EncodeSize.joins_items (take i xs)) in
    let begun = begun_behind old (flat_map w (take i xs)) (w x)
    (flat_map w (drop (suc i) xs)) _ _ after c.in_err-write_bufs.ensures.begun in
    on_err_always c.from_residual.result (subst (λ bytes. IsBegun old bytes (g.B.BufsMut.joined c.write_bufs.new.buf))
    (sym step.whole) begun)

pub returns-in_err-write_bufs-clause-cause : goal.returns-in_err-write_bufs-clause-cause
returns-in_err-write_bufs-clause-cause g c =
    let items = g.T.EncodeSize.items in
    let xs = c.args.values.now in
    let i = c.loop-value.value-index in
    let x = c.value-item.result in
    let step = turn items xs i x (omega (arith, c.loop-value-test.true, c.loop-value.auto.value-index-end)) (sym c.value-item.is) in
    let parts = pushed_append (flat_map items (take i xs)) (items x ++ flat_map items (drop (suc i) xs)) in
    let more = pushed_append (items x) (flat_map items (drop (suc i) xs)) in
    let left = g.met.B.BufsMut.spends _ _ _ c.loop-value.invariant in
    refused_so
    (λ error. (error ≡ Memory) ⊎ ((error ≡ TooLong) × (g.B.BufsMut.pushable c.args.buf.now < items_pushed (flat_map items xs)))) _ _
    c.from_residual.ensures.1
    (elim c.in_err-write_bufs.ensures.cause [
      | inl memory ↦ inl memory
      | inr long ↦ inr (long.0, omega (arith, ap items_pushed step.whole, parts, more, left, long.1))
    ])

pub returns-in_err-write_bufs-clause-no_push : goal.returns-in_err-write_bufs-clause-no_push
returns-in_err-write_bufs-clause-no_push g c =
    let items = g.T.EncodeSize.items in
    let xs = c.args.values.now in
    let i = c.loop-value.value-index in
    let x = c.value-item.result in
    let step = turn items xs i x (omega (arith, c.loop-value-test.true, c.loop-value.auto.value-index-end)) (sym c.value-item.is) in
    let parts = pushed_append (flat_map items (take i xs)) (items x ++ flat_map items (drop (suc i) xs)) in
    let more = pushed_append (items x) (flat_map items (drop (suc i) xs)) in
    λ none.
    let bad = c.in_err-write_bufs.ensures.no_push (omega (arith, ap items_pushed step.whole, parts, more, none)) in
    absurd cc
