use Rattle.std.proofs.Common.{◌≡◌, refl, inr, Option, Some, None}
use Rattle.iobufs_owner.specs.Growing.{IsMove}
use Rattle.iobufs_owner.specs.State.{KeepsRoom, Seen}
use Rattle.iobufs_owner.specs.declared.owner.types.Reply.{Reply}
use Rattle.iobufs_owner.specs.declared.owner.types.Step.{Step}
use Rattle.iobuf.specs.Session.{IsNew, MachineTakes}
use Rattle.iobuf.proofs.owner.OwnerService.answer.Goals as goal

made : (old : Option Seen) (new : Seen) → ((m : Seen) → old ≡ Some m → ⊥) → IsNew new → MachineTakes old (Some new)
made None new none is_new = is_new
made (Some m) new none is_new = elim (none m refl) [ ]

taken : (old : Option Seen) (m grown new : Seen) (step : Step) (reply : Reply) → old ≡ Some m → grown.state ≡ m.state
    → KeepsRoom m.room grown.room → IsMove grown step reply new → MachineTakes old (Some new)
taken old m grown new step reply is state room move =
    rw is (inr (step, reply, (grown, new, state, room, move, refl), move.seen.promises))

pub returns-in_err-write_all : goal.returns-in_err-write_all
returns-in_err-write_all g c = made _ _ c.in_default.not-Some c.in_ok-new_machine.ensures

pub returns-in_default : goal.returns-in_default
returns-in_default g c = made _ _ c.in_default.not-Some c.in_ok-new_machine.ensures

pub returns-in_err-writeln-in-Step : goal.returns-in_err-writeln-in-Step
returns-in_err-writeln-in-Step g c =
    let s = c.step.ensures in
    taken _ _ _ _ _ _ c.in-Some.is c.reserve.ensures.state c.reserve.ensures.room (record {
      moves = s.moves;
      room = s.room;
      seen = record { steps = s.steps; promises = s.promises; logs = s.logs };
    })

pub returns-in_ok-writeln-in-Step : goal.returns-in_ok-writeln-in-Step
returns-in_ok-writeln-in-Step g c =
    let s = c.step.ensures in
    taken _ _ _ _ _ _ c.in-Some.is c.reserve.ensures.state c.reserve.ensures.room (record {
      moves = s.moves;
      room = s.room;
      seen = record { steps = s.steps; promises = s.promises; logs = s.logs };
    })
