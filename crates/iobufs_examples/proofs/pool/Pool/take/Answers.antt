use Rattle.iobufs_examples.proofs.Again.{unheld, once}
use Rattle.iobufs_examples.proofs.pool.Pool.take.Goals as goal

pub returns-clause-unheld : goal.returns-clause-unheld
returns-clause-unheld c = unheld c.args.machine.now.state _ c.args.self.now.given c.in_ok-freed.field-0.now c.requires
    c.freed_blocks.ensures c.in_ok-freed.ensures.lookup.3

pub returns-clause-once : goal.returns-clause-once
returns-clause-once c = once c.args.machine.now.state _ c.args.self.now.given c.in_ok-freed.field-0.now c.requires
    c.freed_blocks.ensures c.in_ok-freed.ensures.lookup.3
