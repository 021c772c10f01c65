-- Answers that are no step of a command, by the definitions.
use Rattle.std.specs.Prelude.{◌≡◌, ℕ, List, [], ◌∷◌}
use Rattle.std.proofs.Common.{inl, inr}
use Rattle.iobufs_core.specs.View.{View as ViewValue}
use Rattle.iobufs_run.specs.Choices.{SameOutcome}
use Rattle.iobufs_run.specs.Run.{Step}
use Rattle.iobufs_run.specs.declared.command.Reply.{Reply}
use Rattle.iobufs_run.specs.declared.table.Slot.{Slot}
use Rattle.iobufs_run.specs.declared.table.Slot.TheVariants.{Free, View}
use Rattle.iobufs_run.specs.declared.command.Cmd.TheVariants.{Clear, Take, Drop}
use Rattle.iobufs_run.specs.declared.command.Reply.TheVariants.{Done, Refused}
use Rattle.iobufs_run.specs.declared.command.Refusal.TheVariants.{Memory}

-- to clear a buffer allocates nothing
clear_wants_no_memory : (old new : List Slot) (target : ℕ) → Step old (Clear target) (Refused Memory) new → ⊥
clear_wants_no_memory old new target step = step.1

-- a `take` that fails keeps its name
refused_take_frees_nothing : (view : ViewValue) → Step (View view ∷ []) (Take 0 1) (Refused Memory) (Free ∷ []) → ⊥
refused_take_frees_nothing view step = elim (step.2.1 0)
    [ inl same ↦ absurd (let e = same in cc) | inr freed ↦ absurd (let e = freed.0 in cc) ]

-- a view is not cleared
view_is_not_cleared : (view : ViewValue) (new : List Slot) → Step (View view ∷ []) (Clear 0) Done new → ⊥
view_is_not_cleared view new step = absurd (let e = step.0 in cc)

-- a dropped buffer is gone
dropped_is_gone : (view : ViewValue) → Step (View view ∷ []) (Drop 0) Done (View view ∷ []) → ⊥
dropped_is_gone view step = absurd (let e = step.1.1 in cc)

-- two outcomes of a `take` leave the same buffers
takes_end_alike : (old new another : List Slot) (target n : ℕ) (reply other : Reply)
    → SameOutcome old (Take target n) reply other new another → new ≡ another
takes_end_alike old new another target n reply other same = same.1
