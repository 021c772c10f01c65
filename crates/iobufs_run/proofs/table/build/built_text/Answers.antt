use Rattle.std.proofs.Common.{◌+◌, drop, refl}
use Rattle.std.proofs.lemmas.List.{drop_more}
use Rattle.std.proofs.lemmas.Result.{err_from_is_err_and}
use Rattle.iobufs_run.specs.Causes.{pushed_names}
use Rattle.iobufs_run.proofs.Built.{left_first, left_next, item_costs}
use Rattle.iobufs_run.proofs.Freed.{MayFree-none}
use Rattle.iobufs_run.proofs.table.build.built_text.Goals as goal

pub returns-in_err-builder-clause-err : goal.returns-in_err-builder-clause-err
returns-in_err-builder-clause-err c =
    let (refusal, told, cause) = err_from_is_err_and c.from_residual.result c.from_residual.ensures.1 in
    let memory = c.in_err-builder.ensures.memory c.requires.layout in
    rw (told, cause, memory) (refl, MayFree-none (pushed_names c.args.items.now) c.args.slots.now)

pub loop-item-init : goal.loop-item-init
loop-item-init c =
    let items = c.args.items.now in
    rw c.in_ok-builder.ensures.ok
    (left_first c.args.slots.now c.args.capacity items c.requires.views c.requires.once c.requires.inline c.requires.fits)

pub returns-in_err-add-clause-err : goal.returns-in_err-add-clause-err
returns-in_err-add-clause-err c =
    let l = c.loop-item in
    let item = c.item-item.result in
    let rest = drop (l.item-index + 1) c.args.items.now in
    let more = drop_more c.args.items.now l.item-index item c.loop-item-test.true in
    let left = rw (more, ← c.item-item.is) at l.invariant in
    let (refusal, told, cause) = err_from_is_err_and c.from_residual-in_err-add.result c.from_residual-in_err-add.ensures.1 in
    rw (told, cause, c.in_err-add.ensures.memory, c.add.ensures.freed) (refl, left.costs _ (item_costs l.slots item rest))

pub loop-item-preserved : goal.loop-item-preserved
loop-item-preserved c =
    let l = c.loop-item in
    let item = c.item-item.result in
    let rest = drop (l.item-index + 1) c.args.items.now in
    let more = drop_more c.args.items.now l.item-index item c.loop-item-test.true in
    let left = rw (more, ← c.item-item.is) at l.invariant in
    rw (c.add.ensures.freed, c.in_ok-add.ensures.ok)
    (left_next c.args.slots.now c.args.capacity c.args.items.now l.slots l.builder item rest left)
