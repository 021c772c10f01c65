-- How a session may change what it serves, whatever its lines mean, and its statuses.
--     stop_status     the status of a session that ends early
--     IsStatus        0, 2 or 3
--     TakesOne        a line does one command on named buffers, or nothing
--     IsNew           a machine in which nothing has happened, as promised
--     MachineTakes    a line makes a machine, takes one step of it, or does nothing
--     TakesLines      this many lines change a service so
--     IsServed        a session changes it so
use Rattle.std.specs.Prelude.{◌≡◌, ◌⊎◌, ℕ, zero, suc, List, [], ◌∷◌, Option, Some, None, ⊤}
use Rattle.iobufs_run.specs.Run.{Step}
use Rattle.iobufs_run.specs.declared.command.Cmd.{Cmd}
use Rattle.iobufs_run.specs.declared.command.Reply.{Reply}
use Rattle.iobufs_run.specs.declared.table.Slot.{Slot}
use Rattle.iobufs_owner.specs.Growing.{GrowingRuns}
use Rattle.iobufs_owner.specs.Promises.{Promises}
use Rattle.iobufs_owner.specs.State.{Seen, fresh}
use Rattle.iobufs_owner.specs.declared.owner.types.Reply.{Reply as StepReply}
use Rattle.iobufs_owner.specs.declared.owner.types.Step.{Step as MachineStep}
use Rattle.iobuf.specs.declared.session.Stop.{Stop}
use Rattle.iobuf.specs.declared.session.Stop.TheVariants.{BadCommand, CannotContinue, OtherWords}

-- the status of a session that ends early
abbrev pub stop_status : Stop → ℕ
stop_status (BadCommand number) = 2
stop_status CannotContinue = 3
stop_status OtherWords = 2

-- the statuses of the program
abbrev pub IsStatus : ℕ → Type 0
IsStatus status = (status ≡ 0) ⊎ (status ≡ 2) ⊎ (status ≡ 3)

-- a line does one command, or nothing
abbrev pub TakesOne : (old new : List Slot) → Type 0
TakesOne old new = (new ≡ old) ⊎ ((command : Cmd) × (reply : Reply) × Step old command reply new)

-- a machine in which nothing has happened, as promised
abbrev pub IsNew : Seen → Type 0
IsNew m = (align tail size ceiling threads : ℕ) × (m.state ≡ fresh align tail size ceiling threads) × Promises m.state

-- a line makes a machine, takes one step of it, for which it may make space, or does nothing
abbrev pub MachineTakes : (old new : Option Seen) → Type 0
MachineTakes None None = ⊤
MachineTakes None (Some new) = IsNew new
MachineTakes (Some old) None = ⊥
MachineTakes (Some old) (Some new) = (new ≡ old) ⊎ ((step : MachineStep) × (reply : StepReply)
    × GrowingRuns old (step ∷ []) (reply ∷ []) new × Promises new.state)

-- this many lines change a service so, if `takes` says how one may change it
abbrev pub TakesLines : {S : Type 0} → (S → S → Type 0) → ℕ → (old new : S) → Type 0
TakesLines takes zero old new = new ≡ old
TakesLines {S} takes (suc n) old new = (mid : S) × TakesLines takes n old mid × takes mid new

-- a session changes a service so: by some number of lines
abbrev pub IsServed : {S : Type 0} → (S → S → Type 0) → (old new : S) → Type 0
IsServed takes old new = (n : ℕ) × TakesLines takes n old new
