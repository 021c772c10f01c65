use Rattle.iobufs.proofs.Text.{arith, count-pieces, few_digits, index-located, length-kept, offset-located}
use Rattle.iobufs.proofs.bufs.IoBufs.locate.Goals as goal

pub locate-requires : goal.locate-requires
locate-requires c = omega (arith, c.requires, length-kept c.self.inside _ c.self.view_is)

pub returns-clause-index : goal.returns-clause-index
returns-clause-index c = index-located _ _ _ _ _ c.self.view_is c.locate.ensures.place

pub returns-clause-offset : goal.returns-clause-offset
returns-clause-offset c = offset-located _ _ _ _ _ c.self.view_is c.locate.ensures.place

pub returns-clause-probes : goal.returns-clause-probes
returns-clause-probes c =
    let n = count-pieces _ _ c.self.view_is (omega (arith, c.requires, length-kept c.self.inside _ c.self.view_is)) in
    omega (arith, c.locate.ensures.probes)

pub returns-clause-digits : goal.returns-clause-digits
returns-clause-digits c = λ d l.
    let n = count-pieces _ _ c.self.view_is (omega (arith, c.requires, length-kept c.self.inside _ c.self.view_is)) in
    few_digits c.locate.result.probes _ d c.locate.ensures.probes (omega arith)

pub returns-clause-halves : goal.returns-clause-halves
returns-clause-halves c =
    let n = count-pieces _ _ c.self.view_is (omega (arith, c.requires, length-kept c.self.inside _ c.self.view_is)) in
    omega (arith, c.locate.ensures.halves)
