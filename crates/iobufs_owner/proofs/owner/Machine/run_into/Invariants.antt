use Rattle.iobufs_owner.proofs.Base.{◌≡◌, ◌≤◌, take, length, vec_len, vec_capacity, GrowingRuns}
use Rattle.iobufs_owner.proofs.owner.Machine.run_into.Given as goal

abbrev pub invariant-loop-step : goal.invariant-loop-step
invariant-loop-step l = record {
  runs : GrowingRuns l.fn.self (take l.step-index l.steps) l.replies.items l.self;
  kept : l.self.room ≡ l.fn.self.room;
  room : length l.steps ≤ vec_capacity l.replies;
  made : vec_len l.replies ≡ l.step-index;
}
