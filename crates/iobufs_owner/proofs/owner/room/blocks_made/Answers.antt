use Rattle.iobufs_owner.proofs.WorldSteps.{blocks-next, few-next}
use Rattle.iobufs_owner.proofs.owner.room.blocks_made.Goals as goal

pub loop-step-preserved : goal.loop-step-preserved
loop-step-preserved c = record {
  made = blocks-next _ c.args.steps.now c.loop-step.step-index _ _ c.loop-step-test.true c.loop-step.invariant.made
      c.new_blocks-blocks.ensures;
  few = few-next _ _ _ _ c.loop-step.invariant.few c.new_blocks-blocks.ensures;
}
