use Rattle.std.proofs.Common.{◌++◌, length, length-append, drop, suc, take, ap, arith, sym}
use Rattle.std.specs.List.{flat_map}
use Rattle.iobufs_core.specs.Items.{items_inline}
use Rattle.iobufs_core.specs.SeveralLaws.{inline_append, inline_few}
use Rattle.iobufs_codec.specs.Listed.{joins_each}
use Rattle.iobufs_codec.proofs.Turns.{turn}
use Rattle.iobufs_codec.proofs.list.each_inline_size.Goals as goal

pub encode_inline_size-size-requires : goal.encode_inline_size-size-requires
encode_inline_size-size-requires g c =
    let w = g.T.EncodeSize.written in
    let xs = c.args.values.now in
    let i = c.loop-value.value-index in
    let x = c.value-item.result in
    let step = turn w xs i x (omega (arith, c.loop-value-test.true, c.loop-value.auto.value-index-end)) (sym c.value-item.is) in
    let parts = length-append (flat_map w (take i xs)) (w x ++ flat_map w (drop (suc i) xs)) in
    let more = length-append (w x) (flat_map w (drop (suc i) xs)) in
    omega (arith, ap length step.whole, parts, more, c.requires)

pub overflow_add-size : goal.overflow_add-size
overflow_add-size g c =
    let items = g.T.EncodeSize.items in
    let xs = c.args.values.now in
    let i = c.loop-value.value-index in
    let x = c.value-item.result in
    let step = turn items xs i x (omega (arith, c.loop-value-test.true, c.loop-value.auto.value-index-end)) (sym c.value-item.is) in
    let parts = inline_append (flat_map items (take i xs)) (items x ++ flat_map items (drop (suc i) xs)) in
    let more = inline_append (items x) (flat_map items (drop (suc i) xs)) in
    let few = inline_few (flat_map items xs) in
    let all = ap length (joins_each g.T.EncodeSize.written items g.met.T.EncodeSize.joins_items xs) in
    omega (arith, ap items_inline step.whole, parts, more, few, all, c.requires, c.loop-value.invariant, c.encode_inline_size-size.ensures)

pub loop-value-preserved : goal.loop-value-preserved
loop-value-preserved g c =
    let items = g.T.EncodeSize.items in
    let xs = c.args.values.now in
    let i = c.loop-value.value-index in
    let x = c.value-item.result in
    let step = turn items xs i x (omega (arith, c.loop-value-test.true, c.loop-value.auto.value-index-end)) (sym c.value-item.is) in
    omega (
      arith,
      ap items_inline step.more,
      inline_append (flat_map items (take i xs)) (items x),
      c.loop-value.invariant,
      c.encode_inline_size-size.ensures,
    )
