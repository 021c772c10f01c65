use Rattle.std.proofs.Common.{arith, ◌≡◌, ◌++◌, [], ◌∷◌}
use Rattle.std.proofs.lemmas.List.{take_more}
use Rattle.std.proofs.lemmas.Grind.{common_steps}
use Rattle.iobufs_run.proofs.RunLaws.{run_more}
use Rattle.iobufs_run.proofs.table.Table.run.Goals as goal

pub loop-cmd-preserved : goal.loop-cmd-preserved
loop-cmd-preserved c = record {
  so_far = (
      let kept : c.push.new.self.items ≡ c.loop-cmd.replies.items
      ++ c.apply-reply.result ∷ [] = rw c.unwrap.ensures at c.push.ensures.items in
      let done = take_more c.args.cmds.now c.loop-cmd.cmd-index c.cmd-item.result c.loop-cmd-test.true in
      rw (done, ← c.cmd-item.is, kept) (run_more _ _ _ _ _ _ _ c.loop-cmd.invariant.so_far c.apply-reply.ensures.step));
  slots = c.apply-reply.ensures.slots;
  count = grind (arith, common_steps);
  room = grind (arith, common_steps);
}
