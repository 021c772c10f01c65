use Rattle.std.proofs.Common.{◌++◌, length, length-append, drop, suc, take, ap, arith, sym}
use Rattle.std.specs.List.{flat_map}
use Rattle.iobufs_codec.proofs.Turns.{turn}
use Rattle.iobufs_codec.proofs.list.write_each.Goals as goal

pub write-requires : goal.write-requires
write-requires g c =
    let w = g.T.EncodeSize.written in
    let xs = c.args.values.now in
    let i = c.loop-value.value-index in
    let x = c.value-item.result in
    let step = turn w xs i x (omega (arith, c.loop-value-test.true, c.loop-value.auto.value-index-end)) (sym c.value-item.is) in
    let parts = length-append (flat_map w (take i xs)) (w x ++ flat_map w (drop (suc i) xs)) in
    let more = length-append (w x) (flat_map w (drop (suc i) xs)) in
    let room = g.met.B.BufMut.lessens _ _ _ c.loop-value.invariant in
    omega (arith, ap length step.whole, parts, more, room, c.requires)
