use Rattle.iobufs_owner.proofs.Base.{arith, ◌∙◌, common_steps, GrowingRuns}
use Rattle.iobufs_owner.proofs.Soundness.{promises-of}
use Rattle.iobufs_owner.proofs.WorldSteps.{ends-in-four, near-start, growing-step, runs-of, find}
use Rattle.iobufs_owner.proofs.owner.Machine.run_into.Goals as goal

pub loop-step-preserved : goal.loop-step-preserved
loop-step-preserved c = record {
  runs = rw c.push_reserved.ensures.items
      (growing-step _ c.args.self.now c.args.steps.now c.loop-step.step-index c.loop-step.replies.items c.loop-step.self c.step.result
      c.step.new.self
      c.loop-step-test.true c.loop-step.invariant.runs (record {
        moves = c.step.ensures.moves;
        room = c.step.ensures.room;
        seen = record {
          steps = c.step.ensures.steps;
          promises = c.step.ensures.promises;
          logs = c.step.ensures.logs;
        };
      }));
  kept = c.step.ensures.room ∙ c.loop-step.invariant.kept;
  room = omega arith;
  made = omega arith;
}

pub returns-clause-promises : goal.returns-clause-promises
returns-clause-promises c = promises-of _ c.known-2.ensures.sound

pub returns-clause-moves : goal.returns-clause-moves
returns-clause-moves c = grind (arith, common_steps)

pub returns-clause-run : goal.returns-clause-run
returns-clause-run c =
    let r : GrowingRuns c.args.self.now c.args.steps.now c.loop-step.replies.items c.loop-step.self = grind (arith, common_steps) in
    runs-of _ _ _ _ r

pub returns-clause-ends : goal.returns-clause-ends
returns-clause-ends c =
    let r : GrowingRuns c.args.self.now c.args.steps.now c.loop-step.replies.items c.loop-step.self = grind (arith, common_steps) in
    λ p. ends-in-four _ c.loop-step.self.state p _ c.args.steps.now c.loop-step.replies.items (runs-of _ _ _ _ r)
    (near-start c.args.self.now.state p)

pub returns-clause-within : goal.returns-clause-within
returns-clause-within c =
    let r : GrowingRuns c.args.self.now c.args.steps.now c.loop-step.replies.items c.loop-step.self = grind (arith, common_steps) in
    find c.args.self.now c.args.steps.now c.loop-step.replies.items c.loop-step.self r
