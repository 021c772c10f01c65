use Rattle.iobuf.specs.Session.{IsServed}
use Rattle.iobuf.proofs.session.answer_lines.Given as goal

abbrev pub invariant-loop-number : goal.invariant-loop-number
invariant-loop-number g l = IsServed g.S.Service.Takes l.fn.service l.service
