use Rattle.iobufs.proofs.Text.{HaveNoSpare, deque_len, ◌-◌}
use Rattle.iobufs.proofs.bufs_mut.several.count_full.Given as goal

abbrev pub invariant-loop-full : goal.invariant-loop-full
invariant-loop-full l = HaveNoSpare l.full l.parts.items

abbrev pub decreases-loop-full : goal.decreases-loop-full
decreases-loop-full l = deque_len l.parts - l.full
