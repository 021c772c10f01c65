use Rattle.iobufs.proofs.Text.{ap, arith, bytes-kept, drop, from-place, length-kept, rest-length, take, ◌∙◌}
use Rattle.iobufs.proofs.bufs.IoBufs.peek_behind.Goals as goal

pub locate-place-requires : goal.locate-place-requires
locate-place-requires c = omega (arith, c.requires, c.if-n-eq0.false, length-kept c.self.inside _ c.self.view_is)

pub copy_from-requires-clause-inside : goal.copy_from-requires-clause-inside
copy_from-requires-clause-inside c =
    let n = length-kept c.self.inside _ c.self.view_is in
    let rest = rest-length c.self.inside.pieces c.locate-place.result.index in
    omega (arith, c.requires, c.if-n-eq0.false, c.locate-place.ensures.place.sum)

pub returns : goal.returns
returns c =
    c.copy_from.ensures
    ∙ ap (take _) (from-place c.self.inside.pieces c.args.skip c.locate-place.result.index c.locate-place.result.offset
    c.locate-place.ensures.place.sum
    ∙ ap (drop c.args.skip) (bytes-kept c.self.inside _ c.self.view_is))
