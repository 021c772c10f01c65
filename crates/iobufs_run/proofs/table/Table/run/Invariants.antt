use Rattle.std.proofs.Common.{◌≡◌, ◌≤◌, length, take, vec_len, vec_capacity}
use Rattle.iobufs_run.specs.Slots.{AreSlots}
use Rattle.iobufs_run.specs.Run.{Run}
use Rattle.iobufs_run.proofs.table.Table.run.Given as goal

abbrev pub invariant-loop-cmd : goal.invariant-loop-cmd
invariant-loop-cmd l = record {
  so_far : Run l.fn.self (take l.cmd-index l.cmds) l.replies.items l.self;
  slots : AreSlots l.self;
  count : vec_len l.replies ≡ l.cmd-index;
  room : length l.cmds ≤ vec_capacity l.replies;
}
