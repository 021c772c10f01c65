-- Why a step is refused: the first cause that holds. Denied memory and a full table are told apart from these.
--     alone_of, any_of, view_of            the handle of a call: of this kind, or of any, and borrowed by no other call;
--                                          a view that it shares
--     owning_of, owning_view_of            a handle, and a view, that must have a block
--     capacity, capacity_in                how many bytes there are from a handle's address to its block's end
--     cause_if, cause_or                   a cause if a test holds; the cause against a handle, or else against what
--                                          is asked of it
--     is_over, is_over_at                  a block, or a handle's block, has as many holders as there may be
--     split_cause                          against a split at an offset of a view
--     cause_begun, cause_gone              against a call that begins, and against one that goes on
--     cause_at, cause_of                   against an act with or without an unfinished call, and against a step
--     may_take                             the step is granted memory, if it needs some
--     IsBeside, IsCaused                   a refusal for denied memory or a full table; the reply is the cause that
--                                          holds, or if none does at most one of these
use Rattle.std.specs.Prelude.{◌≡◌, ◌⊎◌, ℕ, ◌+◌, ◌-◌, ◌&&◌, ◌||◌, not, nat_lt, nat_eq, Bool, true, false, length, Option, None, Some, is_some, Result, Ok, Err, if◌then◌else◌}
use Rattle.iobufs_owner.specs.Places.{is_good_place}
use Rattle.iobufs_owner.specs.Kinds.{same_kind, asked}
use Rattle.iobufs_owner.specs.Types.{Kind, View, Mut, Call, New, External, Static, Put, Advance, Freeze, TryIntoMut, SplitTo, IsUnique, Demote, Clone, Slice, Drop, Act, Begin, Go, Step, Refusal, Busy, Idle, OutOfRange, BadPlace, Memory, Ceiling, Room, Reply, Refused}
use Rattle.iobufs_owner.specs.World.{World, LiveHandle, Unfinished, Sharing, Dropping, held_at, going_at, block_in, holders, is_shared}

-- ---- the handle of a call, or the lowest cause against it

-- for a call that must have the handle alone
abbrev pub alone_of : World → ℕ → Kind → Result LiveHandle Refusal
alone_of w h kind = asked (λ x. same_kind x.kind kind) (is_shared h w.calls) (held_at w h)

-- for a call that takes a handle of either kind
abbrev pub any_of : World → ℕ → Result LiveHandle Refusal
any_of w h = asked (λ x. true) (is_shared h w.calls) (held_at w h)

-- the handle that has a block
abbrev pub owning_of : World → ℕ → Result LiveHandle Refusal
owning_of w h = asked (λ x. is_some x.block) (is_shared h w.calls) (held_at w h)

-- the view that has a block
abbrev pub owning_view_of : World → ℕ → Result LiveHandle Refusal
owning_view_of w h = asked (λ x. same_kind x.kind View && is_some x.block) (is_shared h w.calls) (held_at w h)

-- the view, for a call that shares it
abbrev pub view_of : World → ℕ → Result LiveHandle Refusal
view_of w h = asked (λ x. same_kind x.kind View) false (held_at w h)

-- ---- causes

abbrev pub capacity_in : World → ℕ → Option ℕ → ℕ
capacity_in w place None = 0
capacity_in w place (Some b) = (block_in w b).base + (block_in w b).size - place

-- the end of its block, less its place
abbrev pub capacity : World → LiveHandle → ℕ
capacity w x = capacity_in w x.place x.block

abbrev pub cause_if : Bool → Refusal → Option Refusal
cause_if stands why = if stands then Some why else None

-- the cause against a handle, or against what is asked of it
abbrev pub cause_or : {X : Type 0} → Result X Refusal → (X → Option Refusal) → Option Refusal
cause_or (Err why) asked = Some why
cause_or (Ok x) asked = asked x

-- whether one holder more would be too many
abbrev pub is_over : World → Option ℕ → Bool
is_over w None = false
is_over w (Some b) = nat_lt w.ceiling (holders w b)

-- inside the view the block would have a holder more
abbrev pub split_cause : World → ℕ → LiveHandle → Option Refusal
split_cause w at x =
    if nat_lt x.len at then Some OutOfRange
    else (if nat_eq at 0 then None
    else (if nat_eq at x.len then None
    else cause_if (is_over w x.block) Ceiling))

-- against a call that begins
abbrev pub cause_begun : World → Call → Option Refusal
cause_begun w (New base size align) = cause_if (not (is_good_place w.blocks base size align)) BadPlace
cause_begun w (External base size) = cause_if (not (is_good_place w.blocks base size 1)) BadPlace
cause_begun w (Static len) = None
cause_begun w (Put h n) = cause_or (alone_of w h Mut) (λ x. cause_if (nat_lt (capacity w x - x.len) n) OutOfRange)
cause_begun w (Advance h n) = cause_or (any_of w h) (λ x. cause_if (nat_lt x.len n) OutOfRange)
cause_begun w (Freeze h) = cause_or (alone_of w h Mut) (λ x. None)
cause_begun w (TryIntoMut h) = cause_or (alone_of w h View) (λ x. None)
cause_begun w (SplitTo h at) = cause_or (alone_of w h View) (split_cause w at)
cause_begun w (IsUnique h) = cause_or (owning_of w h) (λ x. None)
cause_begun w (Demote h) = cause_or (owning_view_of w h) (λ x. None)
cause_begun w (Clone h) = cause_or (view_of w h) (λ x. None)
cause_begun w (Slice h lo hi) = cause_or (view_of w h) (λ x. cause_if (nat_lt hi lo || nat_lt x.len hi) OutOfRange)
cause_begun w (Drop h) = cause_or (any_of w h) (λ x. None)

abbrev pub is_over_at : World → Option LiveHandle → Bool
is_over_at w None = false
is_over_at w (Some x) = is_over w x.block

-- against an unfinished call: only the last step of a clone or slice adds a holder to those that are counted
abbrev pub cause_gone : World → Unfinished → Option Refusal
cause_gone w (Sharing h lo hi left) = cause_if (nat_eq left 1 && is_over_at w (held_at w h)) Ceiling
cause_gone w (Dropping b let_go left) = None

abbrev pub cause_at : World → Act → Option Unfinished → Option Refusal
cause_at w (Begin call memory) None = cause_begun w call
cause_at w (Begin call memory) (Some c) = Some Busy
cause_at w (Go memory) None = Some Idle
cause_at w (Go memory) (Some c) = cause_gone w c

-- against a step
abbrev pub cause_of : World → Step → Option Refusal
cause_of w step = if nat_lt step.thread (length w.calls) then cause_at w step.act (going_at w step.thread) else Some Idle

-- whether the step may take memory
abbrev pub may_take : Act → Bool
may_take (Begin call memory) = memory
may_take (Go memory) = memory

-- the refusals that are told apart
abbrev pub IsBeside : Bool → Refusal → Type 0
IsBeside memory why = ((why ≡ Memory) × (memory ≡ false)) ⊎ (why ≡ Room)

-- a step is refused by the cause that holds; where none stands, only for memory that it is denied or for want of room
abbrev pub IsCaused : Bool → Option Refusal → Reply → Type 0
IsCaused memory (Some cause) reply = reply ≡ Refused cause
IsCaused memory None reply = (why : Refusal) → reply ≡ Refused why → IsBeside memory why
