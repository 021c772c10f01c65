use Rattle.std.proofs.Common.{◌+◌, ap, sym, refl, subst, ◌∙◌}
use Rattle.std.proofs.lemmas.Bool.{cond-true, lt-ltb}
use Rattle.std.proofs.lemmas.Result.{err_from_is_err_and}
use Rattle.iobufs_core.specs.declared.codec.base.BufError.TheVariants.{Memory, TooLong}
use Rattle.iobufs_run.specs.Refusals.{refusal_of}
use Rattle.iobufs_run.specs.Run.{MayFree}
use Rattle.iobufs_run.specs.Slots.{slot_named, is_view, view_held}
use Rattle.iobufs_run.proofs.Freed.{MayFree-front}
use Rattle.iobufs_run.proofs.Gathered.{source_read, freed_more, text_more, source_fits}
use Rattle.iobufs_run.proofs.table.gather.take_views.Goals as goal

pub returns-in_err-piece-clause-err : goal.returns-in_err-piece-clause-err
returns-in_err-piece-clause-err c =
    let inv = c.loop-src.invariant in
    let read = source_read is_view c.args.slots.now c.loop-src.slots c.args.sources.now c.loop-src.src-index c.index-slots-src.result refl
    c.requires.once
    c.requires.views inv.freed c.loop-src-test.true in
    let not_view = c.in_err-piece.ensures.err.1 in
    let view = ap is_view read.0 ∙ read.1 in
    absurd cc

pub returns-in_err-append-clause-err : goal.returns-in_err-append-clause-err
returns-in_err-append-clause-err c =
    let inv = c.loop-src.invariant in
    let old = c.args.slots.now in
    let sources = c.args.sources.now in
    let i = c.loop-src.src-index in
    let took = c.in_ok-piece.ensures.ok in
    let read = source_read is_view old c.loop-src.slots sources i c.index-slots-src.result refl c.requires.once c.requires.views inv.freed
    c.loop-src-test.true in
    let fits = source_fits old sources i c.loop-src.text c.in_ok-piece.piece c.requires.fits inv.text
    (sym read.0 ∙ took.0) c.loop-src-test.true in
    let memory = c.in_err-append.ensures.added.2 ∙ cond-true _ Memory TooLong (lt-ltb _ _ fits) in
    let freed = freed_more old c.loop-src.slots sources i c.take_view.new.slot inv.freed c.loop-src-test.true took.1 in
    let (refusal, told, cause) = err_from_is_err_and c.from_residual-in_err-append.result c.from_residual-in_err-append.ensures.1 in
    rw told (cause ∙ ap refusal_of memory, subst (MayFree sources old) (sym freed) (MayFree-front sources (i + 1) old))

pub loop-src-preserved : goal.loop-src-preserved
loop-src-preserved c =
    let inv = c.loop-src.invariant in
    let old = c.args.slots.now in
    let sources = c.args.sources.now in
    let i = c.loop-src.src-index in
    let took = c.in_ok-piece.ensures.ok in
    let read = source_read is_view old c.loop-src.slots sources i c.index-slots-src.result refl c.requires.once c.requires.views inv.freed
    c.loop-src-test.true in
    let piece = ap view_held (sym took.0 ∙ read.0) in record {
      freed = freed_more old c.loop-src.slots sources i c.take_view.new.slot inv.freed c.loop-src-test.true took.1;
      text = text_more (λ src. view_held (slot_named old src)) sources i c.loop-src.text c.append.new.self c.in_ok-piece.piece inv.text
          c.in_ok-append.ensures.added.0 piece c.loop-src-test.true;
    }
