use Rattle.iobufs_owner.proofs.Base.{◌≢◌, ◌<◌, ℕ, get_or, no_block}
use Rattle.iobufs_owner.proofs.owner.entries.block_with.Given as goal

abbrev pub invariant-loop-i : goal.invariant-loop-i
invariant-loop-i l = (j : ℕ) → j < l.i → (get_or l.blocks j no_block).base ≢ l.base
