-- A run goes on.
--     run_more    a run and one more step are a run
use Rattle.std.proofs.Common.{List, [], ◌∷◌, ◌++◌, refl, subst}
use Rattle.iobufs_run.specs.declared.table.Slot.{Slot}
use Rattle.iobufs_run.specs.declared.command.Cmd.{Cmd}
use Rattle.iobufs_run.specs.declared.command.Reply.{Reply}
use Rattle.iobufs_run.specs.Run.{Run, Step}

-- a run goes on by one step
pub run_more : (commands : List Cmd) (replies : List Reply) (old mid new : List Slot) (command : Cmd) (reply : Reply)
    → Run old commands replies mid → Step mid command reply new → Run old (commands ++ command ∷ []) (replies ++ reply ∷ []) new
run_more [] [] old mid new command reply run step = (
  new,
  (let P : List Slot
      → Type 0 = λ start. Step start command reply new in subst P run step),
  refl,
)
run_more (first ∷ commands) (answer ∷ replies) old mid new command reply (next, stepped, run) step =
    (next, stepped, run_more commands replies next mid new command reply run step)
run_more [] (answer ∷ replies) old mid new command reply run step = elim run [ ]
run_more (first ∷ commands) [] old mid new command reply run step = elim run [ ]
