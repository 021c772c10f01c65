use Rattle.iobufs_owner.proofs.Base.{arith, sym}
use Rattle.iobufs_owner.proofs.Soundness.{with-first, with-none}
use Rattle.iobufs_owner.proofs.owner.entries.block_with.Goals as goal

pub returns-then-blocks-i : goal.returns-then-blocks-i
returns-then-blocks-i c = sym (with-first c.args.base c.args.blocks.now c.loop-i.i c.loop-i-test.true c.if-blocks-i.true c.loop-i.invariant)

pub returns : goal.returns
returns c = sym (with-none c.args.base c.args.blocks.now (λ j l. c.loop-i.invariant j (omega (arith, l))))
