use Rattle.iobufs_owner.proofs.Base.{◌<◌, ℕ, get_or, ApartFrom, no_block}
use Rattle.iobufs_owner.proofs.owner.make.are_apart.Given as goal

abbrev pub invariant-loop-block : goal.invariant-loop-block
invariant-loop-block l = (k : ℕ) → k < l.block-index → ApartFrom (get_or l.blocks k no_block) l.base l.size
