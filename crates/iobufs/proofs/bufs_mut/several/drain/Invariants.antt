use Rattle.iobufs.proofs.Text.{deque_len, in_order, parts_drained, ◌-◌}
use Rattle.iobufs.proofs.Parts.{IsDraining}
use Rattle.iobufs.proofs.bufs_mut.several.drain.Given as goal

abbrev pub invariant-loop-rest : goal.invariant-loop-rest
invariant-loop-rest l = IsDraining l.row.items l.behind l.rest (parts_drained (in_order l.fn.row.items l.fn.used) l.fn.n)

abbrev pub decreases-loop-rest : goal.decreases-loop-rest
decreases-loop-rest l = deque_len l.row - l.behind
