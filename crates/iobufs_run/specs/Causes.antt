-- Why a command is refused.
--     Cause                             a refusal, with whether it holds
--     is_no_name, is_in_use_beside      a name that isn't there; a destination in use that isn't the source either
--     is_listed, has_twice              a name is in a list; one is there twice
--     is_too_long                       more bytes than a length can say
--     free_name, one_of, lent, move_causes    the causes that several commands have in common, each with further ones
--     gathered, gather_causes           those of commands that join several sources, and all of a gathering
--     total_extent                      how much the sources count together
--     pushed_names, inline_len          the names that the items of a built text push, and how many bytes they put
--     build_causes, join_causes         those of building an `IoBufs`, and of adding a view to one
--     any_kind                          the four kinds of buffers
--     causes, refusal_for,              the causes of each command, the first that holds, and the first of any list
--     first_cause
use Rattle.std.specs.Prelude.{ℕ, ◌+◌, ◌^◌, ◌==◌, Bool, false, ◌&&◌, ◌||◌, not, nat_lt, nat_le, if◌then◌else◌, sum_by, List, [], ◌∷◌, length, Option, Some, None}
use Rattle.std.specs.List.{list_any, list_all}
use Rattle.iobufs_core.specs.Part.{is_bad_layout}
use Rattle.iobufs_core.specs.View.{range_fits}
use Rattle.iobufs_core.specs.Wire.{view_written}
use Rattle.iobufs_core.specs.declared.codec.base.Error.TheVariants as fault
use Rattle.iobufs_run.specs.Slots.{slot_named, is_free, is_of, is_one_of, is_fixed_view, is_too_large, extent, readable, writable, slot_capacity, view_held}
use Rattle.iobufs_run.specs.declared.table.Slot.{Slot}
use Rattle.iobufs_run.specs.declared.command.Cmd.{Cmd}
use Rattle.iobufs_run.specs.declared.command.Cmd.TheVariants.{NewMut, Zeroed, Adopt, Static, FromBytes, Put, Fill, SetLen, Truncate, Clear, Overwrite, Freeze, Recover, Clone, Slice, Split, Advance, Take, Gather, GatherMut, Append, Prepend, Coalesce, Build, Encode, Decode, Drop, Show}
use Rattle.iobufs_run.specs.declared.command.Item.{Item}
use Rattle.iobufs_run.specs.declared.command.Item.TheVariants.{Inline, Push}
use Rattle.iobufs_run.specs.declared.command.Kind.{Kind}
use Rattle.iobufs_run.specs.declared.command.Kind.TheVariants.{Part, View, Text, Parts}
use Rattle.iobufs_run.specs.declared.command.Refusal.{Refusal}
use Rattle.iobufs_run.specs.declared.command.Refusal.TheVariants.{NoName, WrongKind, InUse, OutOfRange, BadLayout, TooLong, Declined, Codec}

-- a cause is a refusal with whether it stands
abbrev pub Cause : Type 0
Cause = Bool × Refusal

-- no such name
abbrev pub is_no_name : List Slot → ℕ → Bool
is_no_name names name = nat_le (length names) name

-- a destination that is in use, and is not the source that the command consumes
abbrev pub is_in_use_beside : List Slot → ℕ → ℕ → Bool
is_in_use_beside names src dst = not (dst == src) && not (is_free (slot_named names dst))

-- a name stands in a list, and one stands there twice
abbrev pub is_listed : List ℕ → ℕ → Bool
is_listed names name = list_any (λ other. other == name) names

abbrev pub has_twice : List ℕ → Bool
has_twice [] = false
has_twice (name ∷ names) = is_listed names name || has_twice names

-- so many bytes are more than a length can say
abbrev pub is_too_long : ℕ → Bool
is_too_long n = nat_le (2 ^ 64) n

-- a destination that has to be free
abbrev pub free_name : List Slot → ℕ → List Cause → List Cause
free_name names dst others = (is_no_name names dst, NoName) ∷ (not (is_free (slot_named names dst)), InUse) ∷ others

-- a buffer of one of these kinds
abbrev pub one_of : List Kind → List Slot → ℕ → List Cause → List Cause
one_of kinds names target others = (is_no_name names target, NoName) ∷ (not (is_one_of kinds (slot_named names target)), WrongKind) ∷ others

-- a source of one of these kinds that keeps its name, and a free destination
abbrev pub lent : List Kind → List Slot → ℕ → ℕ → List Cause → List Cause
lent kinds names src dst others =
    (is_no_name names src || is_no_name names dst, NoName)
    ∷ (not (is_one_of kinds (slot_named names src)), WrongKind)
    ∷ (not (is_free (slot_named names dst)), InUse)
    ∷ others

-- a source of one of these kinds that is consumed, and a destination that is free or the source
abbrev pub move_causes : List Kind → List Slot → ℕ → ℕ → List Cause → List Cause
move_causes kinds names src dst others =
    (is_no_name names src || is_no_name names dst, NoName)
    ∷ (not (is_one_of kinds (slot_named names src)), WrongKind)
    ∷ (is_in_use_beside names src dst, InUse)
    ∷ others

-- several sources of a kind that are consumed, and a destination that is free or one of them
abbrev pub gathered : Kind → List Slot → ℕ → List ℕ → List Cause → List Cause
gathered kind names dst sources others =
    (is_no_name names dst || list_any (is_no_name names) sources, NoName)
    ∷ (not (list_all (λ src. is_of kind (slot_named names src)) sources), WrongKind)
    ∷ (not (is_free (slot_named names dst)) && not (is_listed sources dst) || has_twice sources, InUse)
    ∷ others

-- how much sources count together
abbrev pub total_extent : List Slot → List ℕ → ℕ
total_extent names sources = sum_by (λ src. extent (slot_named names src)) sources

-- the causes to refuse a gathering of buffers of this kind
abbrev pub gather_causes : Kind → List Slot → ℕ → List ℕ → List Cause
gather_causes kind names dst sources = gathered kind names dst sources ((is_too_long (total_extent names sources), TooLong) ∷ [])

-- the names that items push, and how many bytes they put
abbrev pub pushed_names : List Item → List ℕ
pushed_names [] = []
pushed_names (Inline bytes ∷ items) = pushed_names items
pushed_names (Push name ∷ items) = name ∷ pushed_names items

abbrev pub inline_len : List Item → ℕ
inline_len [] = 0
inline_len (Inline bytes ∷ items) = length bytes.items + inline_len items
inline_len (Push name ∷ items) = inline_len items

-- the causes to refuse to build an `IoBufs` of these items
abbrev pub build_causes : List Slot → ℕ → ℕ → List Item → List Cause
build_causes names dst capacity items =
    gathered View names dst (pushed_names items)
    ((nat_lt capacity (inline_len items), OutOfRange)
    ∷ (nat_le (2 ^ 63) capacity, BadLayout)
    ∷ (is_too_long (capacity + total_extent names (pushed_names items)), TooLong) ∷ [])

-- the causes to refuse to put a view after or before an `IoBufs`
abbrev pub join_causes : List Slot → ℕ → ℕ → List Cause
join_causes names target src =
    (is_no_name names target || is_no_name names src, NoName)
    ∷ (not (is_of Text (slot_named names target)) || not (is_of View (slot_named names src)), WrongKind)
    ∷ (is_too_long (readable (slot_named names target) + readable (slot_named names src)), TooLong) ∷ []

-- all four kinds
abbrev pub any_kind : List Kind
any_kind = Part ∷ View ∷ Text ∷ Parts ∷ []

-- the causes to refuse a command, in the order of their numbers
abbrev pub causes : List Slot → Cmd → List Cause
causes names (NewMut dst capacity align) = free_name names dst ((is_bad_layout capacity align, BadLayout) ∷ [])
causes names (Zeroed dst len align) = free_name names dst ((is_bad_layout len align, BadLayout) ∷ [])
causes names (Adopt dst bytes) = free_name names dst []
causes names (Static dst text) = free_name names dst []
causes names (FromBytes dst bytes) = free_name names dst []
causes names (Put target bytes) =
    one_of (Part ∷ Parts ∷ []) names target ((nat_lt (writable (slot_named names target)) (length bytes.items), OutOfRange) ∷ [])
causes names (Fill target byte n) =
    one_of (Part ∷ Parts ∷ []) names target ((nat_lt (writable (slot_named names target)) n, OutOfRange) ∷ [])
causes names (SetLen target n) =
    one_of (Part ∷ Parts ∷ []) names target ((nat_lt (slot_capacity (slot_named names target)) n, OutOfRange) ∷ [])
causes names (Truncate target n) = one_of (Part ∷ []) names target []
causes names (Clear target) = one_of (Part ∷ []) names target []
causes names (Overwrite target bytes) =
    one_of (Part ∷ Parts ∷ []) names target ((not (length bytes.items == readable (slot_named names target)), OutOfRange) ∷ [])
causes names (Freeze src dst) = move_causes (Part ∷ Parts ∷ []) names src dst []
causes names (Recover src dst) = move_causes (View ∷ []) names src dst ((is_fixed_view (slot_named names src), Declined) ∷ [])
causes names (Clone src dst) = lent (View ∷ Text ∷ []) names src dst []
causes names (Slice src dst lo hi) =
    lent (View ∷ []) names src dst ((not (range_fits lo hi (readable (slot_named names src))), OutOfRange) ∷ [])
causes names (Split src dst at) =
    lent (View ∷ Text ∷ []) names src dst ((nat_lt (readable (slot_named names src)) at, OutOfRange) ∷ [])
causes names (Advance target n) = one_of any_kind names target ((nat_lt (readable (slot_named names target)) n, OutOfRange) ∷ [])
causes names (Take target n) = one_of any_kind names target ((nat_lt (readable (slot_named names target)) n, OutOfRange) ∷ [])
causes names (Gather dst sources) = gather_causes View names dst sources.items
causes names (GatherMut dst sources) = gather_causes Part names dst sources.items
causes names (Append target src) = join_causes names target src
causes names (Prepend target src) = join_causes names target src
causes names (Coalesce src dst) = move_causes (Text ∷ Parts ∷ []) names src dst ((is_too_large (slot_named names src), BadLayout) ∷ [])
causes names (Build dst capacity items) = build_causes names dst capacity items.items
causes names (Encode src dst) =
    lent (View ∷ []) names src dst ((is_too_long (length (view_written (view_held (slot_named names src)))), Codec fault.TooLong) ∷ [])
causes names (Decode src dst range) = lent (View ∷ Text ∷ []) names src dst []
causes names (Drop target) = one_of any_kind names target []
causes names (Show target) = one_of any_kind names target []

-- the first cause that holds
abbrev pub first_cause : List Cause → Option Refusal
first_cause [] = None
first_cause (cause ∷ others) = if cause.0 then Some cause.1 else first_cause others

-- the command is refused for this; if there is none, only for a failed allocation, for a fault of what it reads, or as
-- declined by a view that may be shared
abbrev pub refusal_for : List Slot → Cmd → Option Refusal
refusal_for names command = first_cause (causes names command)
