use Rattle.iobufs_owner.proofs.Base.{moves-of, room-of, IsMove, Refused, Room, result_unwrap_or}
use Rattle.iobufs_owner.proofs.Soundness.{promises-of}
use Rattle.iobufs_owner.proofs.WorldSteps.{steps-of, finds, keeps-logs, told, counts-taken, tells-unique}
use Rattle.iobufs_owner.proofs.owner.Machine.step.Goals as goal

-- the step is a move, by the tables and as users see it
move : (c : goal.After-known-2) → IsMove c.args.self.now c.args.step (result_unwrap_or c.take.result (Refused Room)) c.take.new.self
move c =
    let k = c.known-2.ensures in
    let m = moves-of c.args.self.now c.args.step c.take.result c.take.new.self k.sound k.blocks k.handles k.records c.take.ensures in
    record {
      moves = m;
      room = room-of _ _ c.take.result c.take.new.self c.take.ensures;
      seen = record {
        steps = steps-of c.args.self.now c.take.new.self c.args.step _ c.known.ensures.sound m;
        promises = promises-of _ k.sound;
        logs = keeps-logs c.args.self.now c.args.step _ c.take.new.self m;
      };
    }

pub returns-clause-moves : goal.returns-clause-moves
returns-clause-moves c = rw c.unwrap_or-reply.ensures (move c).moves

pub returns-clause-steps : goal.returns-clause-steps
returns-clause-steps c = rw c.unwrap_or-reply.ensures (move c).seen.steps

pub returns-clause-promises : goal.returns-clause-promises
returns-clause-promises c = (move c).seen.promises

pub returns-clause-room : goal.returns-clause-room
returns-clause-room c = room-of _ _ c.take.result c.take.new.self c.take.ensures

pub returns-clause-within : goal.returns-clause-within
returns-clause-within c = rw c.unwrap_or-reply.ensures (finds c.args.self.now c.args.step _ c.take.new.self (move c).moves)

pub returns-clause-cause : goal.returns-clause-cause
returns-clause-cause c = rw c.unwrap_or-reply.ensures (told _ _ c.args.step _ (move c).seen.steps).1

pub returns-clause-unique : goal.returns-clause-unique
returns-clause-unique c = rw c.unwrap_or-reply.ensures (tells-unique _ _ c.args.step _ (move c).seen.steps)

pub returns-clause-ends : goal.returns-clause-ends
returns-clause-ends c = rw c.unwrap_or-reply.ensures (counts-taken c.args.self.now.state _ c.args.step _ (move c).seen.steps)

pub returns-clause-logs : goal.returns-clause-logs
returns-clause-logs c = (move c).seen.logs
