-- Whole runs, as users see them.
--     IsStep                   a step of the abstract state, what holds after it, and the logs, which only grow
--     Runs                     a list of steps with its replies, from one state to another
--     ends_call                a refusal that ends the call that it meets
--     taken_after, taken_of    how many steps of its call a thread has executed: by a reply, and at most, by the call
--     EndsInFour               no call of the thread is unfinished after four steps
use Rattle.std.specs.Prelude.{◌≡◌, ℕ, ◌+◌, ◌-◌, ◌<◌, ◌==◌, Bool, true, false, List, [], ◌∷◌, Option, None, Some, if◌then◌else◌, MatchBool}
use Rattle.iobufs_owner.specs.Types.{Step, Refusal, Memory, Ceiling, Reply, More, Refused}
use Rattle.iobufs_owner.specs.State.{State, KeepsLogs}
use Rattle.iobufs_owner.specs.World.{Unfinished, Sharing, Dropping}
use Rattle.iobufs_owner.specs.Reading.{reading}
use Rattle.iobufs_owner.specs.Steps.{Steps}
use Rattle.iobufs_owner.specs.Promises.{Promises}

-- a step, as users see it: they see a step of the world, what is promised holds behind it, and what was freed stays logged
pub record IsStep (s : State) (step : Step) (reply : Reply) (next : State) : Type 0 where
  pub steps : Steps (reading s) step reply (reading next)
  pub promises : Promises next
  pub logs : KeepsLogs s next

-- a whole run: each step begins where the one before it ended; room that is made between steps changes nothing here
abbrev pub Runs : State → List Step → List Reply → State → Type 0
Runs s [] [] next = next ≡ s
Runs s (step ∷ steps) (reply ∷ replies) next = (mid : State) × IsStep s step reply mid × Runs mid steps replies next
Runs s [] (reply ∷ replies) next = ⊥
Runs s (step ∷ steps) [] next = ⊥

-- ---- a call ends with its fourth taken step at the latest

-- want of memory, and a holder too many, end a call; other refusals change nothing
abbrev pub ends_call : Refusal → Bool
ends_call Memory = true
ends_call Ceiling = true
ends_call why = false

-- how many steps of an unfinished call are taken after this reply, where n were before it; 0 where there is none
abbrev pub taken_after : ℕ → Reply → ℕ
taken_after n More = n + 1
taken_after n (Refused why) = if ends_call why then 0 else n
taken_after n reply = 0

-- No call of thread p has a fourth step that leaves it unfinished; n steps of an unfinished one are taken already.
abbrev pub EndsInFour : (p n : ℕ) → List Step → List Reply → Type 0
EndsInFour p n [] replies = Unit {0}
EndsInFour p n (step ∷ steps) [] = Unit {0}
EndsInFour p n (step ∷ steps) (reply ∷ replies) =
    MatchBool (step.thread == p) ((taken_after n reply < 4) × EndsInFour p (taken_after n reply) steps replies)
    (EndsInFour p n steps replies)

-- how many steps an unfinished call has taken at most: four, less those that it may still take
abbrev pub taken_of : Option Unfinished → ℕ
taken_of None = 0
taken_of (Some (Sharing h lo hi left)) = 4 - left
taken_of (Some (Dropping b let_go left)) = 4 - left
