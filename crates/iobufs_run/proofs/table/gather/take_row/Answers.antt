use Rattle.std.proofs.Common.{ap, sym, refl, arith, ◌∙◌}
use Rattle.std.proofs.lemmas.Grind.{common_steps}
use Rattle.iobufs_run.specs.Slots.{slot_named, is_part, part_held}
use Rattle.iobufs_run.proofs.Gathered.{source_read, freed_more, row_more}
use Rattle.iobufs_run.proofs.table.gather.take_row.Goals as goal

pub returns-in_err-part-clause-err : goal.returns-in_err-part-clause-err
returns-in_err-part-clause-err c =
    let inv = c.loop-src.invariant in
    let read = source_read is_part c.args.slots.now c.loop-src.slots c.args.sources.now c.loop-src.src-index c.index-slots-src.result refl
    c.requires.once
    c.requires.parts inv.freed c.loop-src-test.true in
    let not_part = c.in_err-part.ensures.err.1 in
    let part = ap is_part read.0 ∙ read.1 in
    absurd cc

pub loop-src-preserved : goal.loop-src-preserved
loop-src-preserved c =
    let inv = c.loop-src.invariant in
    let old = c.args.slots.now in
    let sources = c.args.sources.now in
    let i = c.loop-src.src-index in
    let took = c.in_ok-part.ensures.ok in
    let read = source_read is_part old c.loop-src.slots sources i c.index-slots-src.result refl c.requires.once c.requires.parts inv.freed
    c.loop-src-test.true in
    let part = ap part_held (sym took.0 ∙ read.0) in
    let pushed = rw c.unwrap.ensures at c.push.ensures.items in record {
      freed = freed_more old c.loop-src.slots sources i c.take_part.new.slot inv.freed c.loop-src-test.true took.1;
      row = row_more (λ src. part_held
          (slot_named old src)) sources i c.loop-src.row.items c.push.new.self.items c.in_ok-part.part inv.row pushed part
          c.loop-src-test.true;
      count = grind (arith, common_steps);
      room = grind (arith, common_steps);
    }
