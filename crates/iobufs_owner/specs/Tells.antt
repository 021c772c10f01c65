-- The meaning of a machine's replies.
--     IsSole, TellsUnique    no other handle and no drop holds the block; and `IsUnique` reports just that
--     CountsTaken            a step leaves its thread's call with fewer than four steps executed
--     AddsEntry, IsReplyTo   a table has an entry more; the reply to a step, by the step tables
--     after, TellsTables     the state after a step and its reply; the replies of a run lead to its last state
use Rattle.std.specs.Prelude.{◌≡◌, ◌≢◌, ◌⊎◌, ◌↔◌, ℕ, ◌<◌, ◌≤◌, Bool, true, false, List, [], ◌∷◌, length, Some}
use Rattle.iobufs_owner.specs.Types.{IsUnique, Begin, Step, Room, Reply, Unique, Refused}
use Rattle.iobufs_owner.specs.State.{State}
use Rattle.iobufs_owner.specs.Moves.{moved}
use Rattle.iobufs_owner.specs.World.{World, LiveHandle, held_at, going_at, holds, still_holds}
use Rattle.iobufs_owner.specs.Runs.{taken_after, taken_of}

-- no other handle and no unfinished drop holds the block
pub record IsSole (w : World) (h b : ℕ) : Type 0 where
  pub handles : (k : ℕ) → k ≢ h → holds b (held_at w k) ≡ false
  pub drops : (p : ℕ) → still_holds b (going_at w p) ≡ false

-- `IsUnique` answers true exactly where the handle is its block's sole holder
abbrev pub TellsUnique : World → Step → Reply → Type 0
TellsUnique w step reply =
    (h b : ℕ) (memory v : Bool) (x : LiveHandle) → step.act ≡ Begin (IsUnique h) memory → reply ≡ Unique v → held_at w h ≡ Some x
    → x.block ≡ Some b
    → (v ≡ true) ↔ IsSole w h b

-- Where n steps of the thread's unfinished call are taken at most, fewer than four are after the step, and no more than
-- the call that is unfinished then has taken at most.
abbrev pub CountsTaken : World → Step → Reply → World → Type 0
CountsTaken w step reply next =
    (n : ℕ) → n ≤ taken_of (going_at w step.thread)
    → (taken_after n reply < 4) × (taken_after n reply ≤ taken_of (going_at next step.thread))

-- ---- the step tables, from the replies of a run

-- a table of t has more entries
abbrev pub AddsEntry : (s t : State) → Type 0
AddsEntry s t =
    (length s.handles < length t.handles) ⊎ (length s.tables.blocks < length t.tables.blocks)
    ⊎ (length s.tables.records < length t.tables.records)

-- the reply that the step tables give, or `Room` to a step that would add an entry
abbrev pub IsReplyTo : State → Step → Reply → Type 0
IsReplyTo s step reply = (reply ≡ (moved s step).reply) ⊎ ((reply ≡ Refused Room) × AddsEntry s (moved s step).state)

-- the state after a step with this reply: the same if a table was full, and else what the step tables make of it
abbrev pub after : State → Step → Reply → State
after s step (Refused Room) = s
after s step reply = (moved s step).state

-- Replies are those of the step tables, and lead from the first state to the last one: to its words, counts, records and
-- logs.
abbrev pub TellsTables : State → List Step → List Reply → State → Type 0
TellsTables s [] [] next = next ≡ s
TellsTables s (step ∷ steps) (reply ∷ replies) next = IsReplyTo s step reply × TellsTables (after s step reply) steps replies next
TellsTables s [] (reply ∷ replies) next = ⊥
TellsTables s (step ∷ steps) [] next = ⊥
