use Rattle.iobufs_owner.proofs.Base.{◌≡◌, ◌≤◌, take, blocks_of}
use Rattle.iobufs_owner.proofs.owner.room.blocks_made.Given as goal

abbrev pub invariant-loop-step : goal.invariant-loop-step
invariant-loop-step l = record {
  made : l.blocks ≡ blocks_of (take l.step-index l.steps);
  few : l.blocks ≤ l.step-index;
}
