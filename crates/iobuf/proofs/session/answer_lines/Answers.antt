use Rattle.std.proofs.Common.{suc, subst, sym}
use Rattle.iobuf.specs.Session.{IsServed}
use Rattle.iobuf.proofs.session.answer_lines.Goals as goal
use Rattle.iobuf.proofs.session.answer_lines.Goals.{in-Some+in_ok-answer, in_default+in_ok-flush+in_ok-read_until+else-branch-eq0+in_ok-answer-2}

-- one line more
then : {S : Type 0} (takes : S → S → Type 0) (old mid new : S) → IsServed takes old mid → takes mid new → IsServed takes old new
then takes old mid new before line = (suc before.0, (mid, before.1, line))

pub returns-in_err-answer : goal.returns-in_err-answer
returns-in_err-answer g c = then g.S.Service.Takes _ _ _ c.loop-number.invariant c.answer.ensures

pub returns-in_err-answer-2 : goal.returns-in_err-answer-2
returns-in_err-answer-2 g c = then g.S.Service.Takes _ _ _ c.loop-number.invariant c.answer-in_default.ensures

pub loop-number-preserved : goal.loop-number-preserved
loop-number-preserved g c = elim c.match-memchr.branch [
  | in-Some+in_ok-answer w ↦
      subst (IsServed g.S.Service.Takes c.args.service.now) (sym w.service-is)
      (then g.S.Service.Takes _ _ _ c.loop-number.invariant w.answer.ensures)
  | in_default+in_ok-flush+in_ok-read_until+else-branch-eq0+in_ok-answer-2 w ↦
      subst (IsServed g.S.Service.Takes c.args.service.now) (sym w.service-is)
      (then g.S.Service.Takes _ _ _ c.loop-number.invariant w.answer-in_default.ensures)
]
