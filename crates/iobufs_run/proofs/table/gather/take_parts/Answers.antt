use Rattle.std.proofs.Common.{◌≡◌, ℕ, List, IfErr, IsOkUnless, Result, Ok, Err, sym, subst}
use Rattle.iobufs_run.specs.declared.command.Refusal.{Refusal}
use Rattle.iobufs_run.specs.declared.command.Refusal.TheVariants.{Memory}
use Rattle.iobufs_run.specs.declared.table.Slot.{Slot}
use Rattle.iobufs_run.specs.Run.{all_freed, MayFree}
use Rattle.iobufs_run.proofs.Freed.{MayFree-all}
use Rattle.iobufs_run.proofs.Gathered.{row_fits}
use Rattle.iobufs_run.proofs.table.gather.take_parts.Goals as goal

pub strung-requires : goal.strung-requires
strung-requires c = row_fits c.args.slots.now c.args.sources.now c.in_ok-row.row.items c.requires.fits c.in_ok-row.ensures.ok

-- the parts are gone when they can't be strung together
refused_costs : {X : Type 0} (result : Result X Refusal) (xs : List ℕ) (old new : List Slot) → IsOkUnless result Memory
    → new ≡ all_freed old xs
    → IfErr result (λ refusal. (refusal ≡ Memory) × MayFree xs old new)
refused_costs (Ok x) xs old new memory is = tt
refused_costs (Err refusal) xs old new memory is = (memory, subst (MayFree xs old) (sym is) (MayFree-all xs old))

pub returns-clause-err : goal.returns-clause-err
returns-clause-err c = refused_costs c.strung.result c.args.sources.now c.args.slots.now c.take_row.new.slots c.strung.ensures.memory
    c.in_ok-row.ensures.freed
