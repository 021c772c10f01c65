use Rattle.std.proofs.Common.{arith, length, ap, length-append}
use Rattle.iobufs_core.specs.SeveralLaws.{inline_append, inline_few}
use Rattle.iobufs_core.proofs.codec.several.Tuple2EncodeSize.encode_inline_size.Goals as goal

pub overflow_add-result : goal.overflow_add-result
overflow_add-result g c =
    let a = g.A.EncodeSize.items c.args.self.now.0 in
    let b = g.B.EncodeSize.items c.args.self.now.1 in
    let few = inline_few a in
    let few' = inline_few b in
    let la = ap length (g.met.A.EncodeSize.joins_items c.args.self.now.0) in
    let lb = ap length (g.met.B.EncodeSize.joins_items c.args.self.now.1) in
    let l = length-append (g.A.EncodeSize.written c.args.self.now.0) (g.B.EncodeSize.written c.args.self.now.1) in
    omega (arith, few, few', la, lb, l, c.requires, c.encode_inline_size.ensures, c.encode_inline_size-2.ensures)

pub returns : goal.returns
returns g c =
    let e = inline_append (g.A.EncodeSize.items c.args.self.now.0) (g.B.EncodeSize.items c.args.self.now.1) in
    omega (arith, e, c.encode_inline_size.ensures, c.encode_inline_size-2.ensures)
