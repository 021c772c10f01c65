-- The choices that a command leaves open, and the names after a refusal. It may be refused with `Memory`, and some of
-- the consumed names may then be free. The capacity after adopted bytes is open. A native view, whose storage may be
-- shared, may be recovered or not. Nothing else is open.
--     is_want_of_memory,       a reply is refused with `Memory`, or for another cause
--     is_other_refusal
--     SameReply                two replies are equal, and show the same chunks
--     SameOutcome,             two outcomes differ at most in that capacity, or in whether the view was recovered or
--     IsRecoveredOrDeclined    declined
--     NoOtherChoices           a command that isn't refused with `Memory` has one outcome, up to these
--     OnlyWants                `Memory` is the reply only if no cause holds and the command may allocate; nothing else
--                              refuses such a command
--     RefusalsKeep             a refused command leaves each name its buffer, unless `Memory` costs what is consumed
use Rattle.std.specs.Prelude.{◌≡◌, ◌⊎◌, ℕ, Bool, true, false, List, length, map, None, IsTrue}
use Rattle.iobufs_run.specs.declared.table.Slot.{Slot}
use Rattle.iobufs_run.specs.declared.table.Slot.TheVariants.{Free}
use Rattle.iobufs_run.specs.declared.command.Cmd.{Cmd}
use Rattle.iobufs_run.specs.declared.command.Cmd.TheVariants.{Adopt, Recover}
use Rattle.iobufs_run.specs.declared.command.Reply.{Reply}
use Rattle.iobufs_run.specs.declared.command.Reply.TheVariants.{Done, Shown, Refused}
use Rattle.iobufs_run.specs.declared.command.Refusal.{Refusal}
use Rattle.iobufs_run.specs.declared.command.Refusal.TheVariants.{Declined, Memory}
use Rattle.iobufs_run.specs.Causes.{is_listed, refusal_for}
use Rattle.iobufs_run.specs.Slots.{slot_named, slot_recovered, is_native_view, shown_piece}
use Rattle.iobufs_run.specs.Run.{consumed, MayFree, MayWantMemory, moved_to, Step, with_bytes}

-- the reply is an allocation failure; it is a refusal for another reason
abbrev pub is_want_of_memory : Reply → Bool
is_want_of_memory (Refused Memory) = true
is_want_of_memory _ = false

abbrev pub is_other_refusal : Reply → Bool
is_other_refusal (Refused Memory) = false
is_other_refusal (Refused refusal) = true
is_other_refusal _ = false

-- replies that say the same: what is shown by its kind, and the bytes and the capacity of each chunk
abbrev pub SameReply : Reply → Reply → Type 0
SameReply (Shown kind pieces) (Shown kind' pieces') = (kind ≡ kind') × (map shown_piece pieces.items ≡ map shown_piece pieces'.items)
SameReply reply other = reply ≡ other

-- a view was recovered, or declined and kept
abbrev pub IsRecoveredOrDeclined : List Slot → (src dst : ℕ) → Reply → List Slot → Type 0
IsRecoveredOrDeclined old src dst Done new = new ≡ moved_to old src dst (slot_recovered (slot_named old src))
IsRecoveredOrDeclined old src dst (Refused Declined) new = new ≡ old
IsRecoveredOrDeclined old src dst reply new = ⊥

-- two outcomes of a command, neither of them an allocation failure, are the same, but for the capacity after adopted bytes, and for
-- whether a native view is recovered
abbrev pub SameOutcome : List Slot → Cmd → (reply other : Reply) → (new another : List Slot) → Type 0
SameOutcome old (Adopt dst bytes) reply other new another =
    SameReply reply other × ((new ≡ another) ⊎ ((room : ℕ) × (another ≡ with_bytes new dst bytes.items room)))
SameOutcome old (Recover src dst) reply other new another =
    (SameReply reply other × (new ≡ another))
    ⊎ (IsTrue (is_native_view (slot_named old src)) × IsRecoveredOrDeclined old src dst reply new
    × IsRecoveredOrDeclined old src dst other another)
SameOutcome old command reply other new another = SameReply reply other × (new ≡ another)

abbrev pub NoOtherChoices : Type 0
NoOtherChoices =
    (old : List Slot) (command : Cmd) (reply other : Reply) (new another : List Slot) → Step old command reply new
    → Step old command other another
    → is_want_of_memory reply ≡ false → is_want_of_memory other ≡ false → SameOutcome old command reply other new another

-- a command is refused for a failed allocation only where it may want it and no cause holds; this costs at most what it
-- consumes; and where it isn't refused so, it is done
abbrev pub OnlyWants : Type 0
OnlyWants =
    (old : List Slot) (command : Cmd) (new : List Slot) → Step old command (Refused Memory) new
    → (refusal_for old command ≡ None) × MayWantMemory old command × MayFree (consumed command) old new
    × ((other : Reply) (another : List Slot) → Step old command other another → is_other_refusal other ≡ false)

-- a refused command leaves what each name holds, bytes and all, but for names that it consumes: an allocation failure may free
-- them
abbrev pub RefusalsKeep : Type 0
RefusalsKeep =
    (old : List Slot) (command : Cmd) (refusal : Refusal) (new : List Slot) → Step old command (Refused refusal) new
    → (length new ≡ length old)
    × ((name : ℕ) → (slot_named new name ≡ slot_named old name)
    ⊎ ((refusal ≡ Memory) × IsTrue (is_listed (consumed command) name) × (slot_named new name ≡ Free)))
