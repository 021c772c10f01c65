use Rattle.std.proofs.Common.{arith}
use Rattle.iobufs_core.specs.SeveralLaws.{inline_append}
use Rattle.iobufs_core.proofs.codec.several.Tuple2Write.write_bufs.Goals as goal

pub write_bufs-requires : goal.write_bufs-requires
write_bufs-requires g c =
    let e = inline_append (g.A.EncodeSize.items c.args.self.now.0) (g.B.EncodeSize.items c.args.self.now.1) in
    omega (arith, e, c.requires)

pub write_bufs-requires-2 : goal.write_bufs-requires-2
write_bufs-requires-2 g c =
    let e = inline_append (g.A.EncodeSize.items c.args.self.now.0) (g.B.EncodeSize.items c.args.self.now.1) in
    let u = g.met.O.BufsMut.uses _ _ _ (c.in_ok-write_bufs.ensures.ok) in
    omega (arith, e, u, c.requires)
