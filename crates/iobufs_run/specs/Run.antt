-- Runs of commands on named buffers. A state gives each name what it holds.
--     MayFail, IsFault                what a command may be refused for if no cause of `Causes` holds; a fault of
--                                     reading a view
--     MayWantMemory                   the commands that may be refused with `Memory`
--     consumed, MayFree, all_freed    the names that such a refusal may cost; that it costs no others; and all of
--                                     them free
--     moved_to, with_bytes            a source gone and its destination filled; a name with a part of these bytes
--     item_held                       the item of a `Builder` for an item of a command, with the views that the names
--                                     hold
--     Gives                           a reply and the names that are left, and no other
--     Does                            what a command that is done leaves, and its reply
--     Step, Run                       one command; any list of them
--     joining                         the command that adds a view at this end of an `IoBufs`
--     reply_of                        the reply of a command that is done, or refused
use Rattle.std.specs.Prelude.{◌≡◌, ◌⊎◌, ℕ, ◌==◌, ◌&&◌, not, List, [], ◌∷◌, map, length, take, replicate, slice_set, None, Some, IsTrue, Result, Ok, Err}
use Rattle.iobufs_core.specs.Part.{empty_part}
use Rattle.iobufs_core.specs.Items.{PutOrPush as Written, put_item, push_item}
use Rattle.iobufs_core.specs.MarkedText.{MarkedText, joined}
use Rattle.iobufs_core.specs.View.{View as ViewValue, static_mark, view_of_bytes}
use Rattle.iobufs_core.specs.Wire.{IsViewRead}
use Rattle.iobufs_core.specs.declared.codec.base.Error.TheVariants as fault
use Rattle.iobufs_core.specs.declared.codec.base.RangeCfg.{RangeCfg}
use Rattle.iobufs.specs.Building.{building_after, empty_building, finished}
use Rattle.iobufs.specs.Parts.{kept_parts}
use Rattle.iobufs_run.specs.Causes.{is_listed, pushed_names, refusal_for}
use Rattle.iobufs_run.specs.Slots.{slot_named, is_static_view, is_empty_range, is_in_pieces, is_native_view, readable, bytes_held, view_held, part_held, marked_held, slot_put, slot_frozen, slot_sliced, slot_split_front, slot_rest, slot_advanced, slot_copied, slot_joined, slot_coalesced, view_encoded, slot_read, IsShown, slot_with_len, slot_truncated, slot_overwritten, slot_recovered}
use Rattle.iobufs_run.specs.declared.table.End.{End}
use Rattle.iobufs_run.specs.declared.table.End.TheVariants.{Front, Back}
use Rattle.iobufs_run.specs.declared.table.Slot.{Slot}
use Rattle.iobufs_run.specs.declared.table.Slot.TheVariants.{Free, Part, View, Text, Parts}
use Rattle.iobufs_run.specs.declared.command.Cmd.{Cmd}
use Rattle.iobufs_run.specs.declared.command.Cmd.TheVariants.{NewMut, Zeroed, Adopt, Static, FromBytes, Put, Fill, SetLen, Truncate, Clear, Overwrite, Freeze, Recover, Clone, Slice, Split, Advance, Take, Gather, GatherMut, Append, Prepend, Coalesce, Build, Encode, Decode, Drop, Show}
use Rattle.iobufs_run.specs.declared.command.Item.{Item}
use Rattle.iobufs_run.specs.declared.command.Item.TheVariants.{Inline, Push}
use Rattle.iobufs_run.specs.declared.command.Reply.{Reply}
use Rattle.iobufs_run.specs.declared.command.Reply.TheVariants.{Done, Bytes, Refused}
use Rattle.iobufs_run.specs.declared.command.Refusal.{Refusal}
use Rattle.iobufs_run.specs.declared.command.Refusal.TheVariants.{Declined, Codec, Memory}

-- reading a view from an `IoBufs` meets this fault
abbrev pub IsFault : MarkedText → RangeCfg → Refusal → Type 0
IsFault text range (Codec fault.Memory) = ⊥
IsFault text range (Codec error) = IsViewRead text range (Err error)
IsFault text range _ = ⊥

-- where no cause holds, a command may be refused for this: a view that may be shared is declined, or what is read has
-- a fault
abbrev pub MayFail : List Slot → Cmd → Refusal → Type 0
MayFail names (Recover src dst) refusal = (refusal ≡ Declined) × IsTrue (is_native_view (slot_named names src))
MayFail names (Decode src dst range) refusal = IsFault (marked_held (slot_named names src)) range refusal
MayFail names _ refusal = ⊥

-- where no cause holds and nothing fails, the command may be refused for a failed allocation
abbrev pub MayWantMemory : List Slot → Cmd → Type 0
MayWantMemory names (NewMut dst capacity align) = IsTrue (not (capacity == 0))
MayWantMemory names (Zeroed dst len align) = IsTrue (not (len == 0))
MayWantMemory names (Adopt dst bytes) = IsTrue (not (length bytes.items == 0))
MayWantMemory names (FromBytes dst bytes) = IsTrue (not (length bytes.items == 0))
MayWantMemory names (Freeze src dst) = IsTrue (not (readable (slot_named names src) == 0))
MayWantMemory names (Clone src dst) = Unit {0}
MayWantMemory names (Slice src dst lo hi) =
    IsTrue (not (is_empty_range lo hi (readable (slot_named names src))) && not (is_static_view (slot_named names src)))
MayWantMemory names (Split src dst at) =
    IsTrue (not (at == 0) && not (at == readable (slot_named names src)) && not (is_static_view (slot_named names src)))
MayWantMemory names (Take target n) = IsTrue (not (n == 0))
MayWantMemory names (Gather dst sources) = IsTrue (not (length sources.items == 0))
MayWantMemory names (GatherMut dst sources) = IsTrue (not (length sources.items == 0))
MayWantMemory names (Append target src) = IsTrue (not (readable (slot_named names src) == 0)
    && not (readable (slot_named names target) == 0))
MayWantMemory names (Prepend target src) = IsTrue (not (readable (slot_named names src) == 0)
    && not (readable (slot_named names target) == 0))
MayWantMemory names (Coalesce src dst) = IsTrue (is_in_pieces (slot_named names src))
MayWantMemory names (Build dst capacity items) = Unit {0}
MayWantMemory names (Encode src dst) = Unit {0}
MayWantMemory names (Decode src dst range) = IsViewRead (marked_held (slot_named names src)) range (Err fault.Memory)
MayWantMemory names (Show target) = Unit {0}
MayWantMemory names _ = ⊥

-- the names whose buffers a command moves away
abbrev pub consumed : Cmd → List ℕ
consumed (NewMut dst capacity align) = []
consumed (Zeroed dst len align) = []
consumed (Adopt dst bytes) = []
consumed (Static dst text) = []
consumed (FromBytes dst bytes) = []
consumed (Put target bytes) = []
consumed (Fill target byte n) = []
consumed (SetLen target n) = []
consumed (Truncate target n) = []
consumed (Clear target) = []
consumed (Overwrite target bytes) = []
consumed (Freeze src dst) = src ∷ []
consumed (Recover src dst) = src ∷ []
consumed (Clone src dst) = []
consumed (Slice src dst lo hi) = []
consumed (Split src dst at) = []
consumed (Advance target n) = []
consumed (Take target n) = []
consumed (Gather dst sources) = sources.items
consumed (GatherMut dst sources) = sources.items
consumed (Append target src) = src ∷ []
consumed (Prepend target src) = src ∷ []
consumed (Coalesce src dst) = src ∷ []
consumed (Build dst capacity items) = pushed_names items.items
consumed (Encode src dst) = []
consumed (Decode src dst range) = []
consumed (Drop target) = target ∷ []
consumed (Show target) = []

-- each name holds what it held; one of these names holds that or nothing
abbrev pub MayFree : List ℕ → List Slot → List Slot → Type 0
MayFree freed old new =
    (length new ≡ length old)
    × ((name : ℕ) → (slot_named new name ≡ slot_named old name) ⊎ (IsTrue (is_listed freed name) × (slot_named new name ≡ Free)))

-- these names are free
abbrev pub all_freed : List Slot → List ℕ → List Slot
all_freed names [] = names
all_freed names (src ∷ sources) = all_freed (slice_set names src Free) sources

-- a source is consumed, and its destination holds this
abbrev pub moved_to : List Slot → ℕ → ℕ → Slot → List Slot
moved_to names src dst slot = slice_set (slice_set names src Free) dst slot

-- the names, where `dst` holds a writable buffer of these bytes with this spare capacity
abbrev pub with_bytes : List Slot → ℕ → List ℕ → ℕ → List Slot
with_bytes names dst bytes spare = slice_set names dst (Part (record { filled = bytes; spare = spare }))

-- the bytes that an item puts, or the view that it pushes
abbrev pub item_held : List Slot → Item → Written
item_held names (Inline bytes) = put_item bytes.items
item_held names (Push name) = push_item (view_held (slot_named names name))

-- the reply, and the names that are left
abbrev pub Gives : Reply → List Slot → Reply → List Slot → Type 0
Gives answer left reply new = (reply ≡ answer) × (new ≡ left)

-- the reply of a command that is done, and the names that it leaves. The spare capacity after adopted bytes is open,
-- and a view is read as `IsViewRead` says
abbrev pub Does : List Slot → Cmd → Reply → List Slot → Type 0
Does old (NewMut dst capacity align) = Gives Done (slice_set old dst (Part (empty_part capacity)))
Does old (Zeroed dst len align) = Gives Done (with_bytes old dst (replicate len 0) 0)
Does old (Adopt dst bytes) = λ reply new. (spare : ℕ) × Gives Done (with_bytes old dst bytes.items spare) reply new
Does old (Static dst text) = Gives Done (slice_set old dst (View (record { bytes = text.now; mark = static_mark })))
Does old (FromBytes dst bytes) = Gives Done (slice_set old dst (View (view_of_bytes bytes.items)))
Does old (Put target bytes) = Gives Done (slice_set old target (slot_put (slot_named old target) bytes.items))
Does old (Fill target byte n) = Gives Done (slice_set old target (slot_put (slot_named old target) (replicate n byte)))
Does old (SetLen target n) = Gives Done (slice_set old target (slot_with_len (slot_named old target) n))
Does old (Truncate target n) = Gives Done (slice_set old target (slot_truncated (slot_named old target) n))
Does old (Clear target) = Gives Done (slice_set old target (slot_truncated (slot_named old target) 0))
Does old (Overwrite target bytes) = Gives Done (slice_set old target (slot_overwritten (slot_named old target) bytes.items))
Does old (Freeze src dst) = Gives Done (moved_to old src dst (slot_frozen (slot_named old src)))
Does old (Recover src dst) = Gives Done (moved_to old src dst (slot_recovered (slot_named old src)))
Does old (Clone src dst) = Gives Done (slice_set old dst (slot_named old src))
Does old (Slice src dst lo hi) = Gives Done (slice_set old dst (slot_sliced (slot_named old src) lo hi))
Does old (Split src dst at) =
    Gives Done (slice_set (slice_set old src (slot_rest (slot_named old src) at)) dst (slot_split_front (slot_named old src) at))
Does old (Advance target n) = Gives Done (slice_set old target (slot_advanced (slot_named old target) n))
Does old (Take target n) = Gives (Bytes (take n (bytes_held (slot_named old target))))
    (slice_set old target (slot_copied (slot_named old target) n))
Does old (Gather dst sources) =
    Gives Done (slice_set (all_freed old sources.items) dst (Text (joined (map (λ src. view_held (slot_named old src)) sources.items))))
Does old (GatherMut dst sources) =
    Gives Done (slice_set (all_freed old sources.items) dst
    (Parts (kept_parts (map (λ src. part_held (slot_named old src)) sources.items))))
Does old (Append target src) = Gives Done (moved_to old src target (slot_joined Back (slot_named old target) (slot_named old src)))
Does old (Prepend target src) = Gives Done (moved_to old src target (slot_joined Front (slot_named old target) (slot_named old src)))
Does old (Coalesce src dst) = Gives Done (moved_to old src dst (slot_coalesced (slot_named old src)))
Does old (Build dst capacity items) =
    Gives Done (slice_set (all_freed old (pushed_names items.items)) dst
    (Text (finished (building_after (empty_building capacity) (map (item_held old) items.items)))))
Does old (Encode src dst) = Gives Done (slice_set old dst (Text (view_encoded (view_held (slot_named old src)))))
Does old (Decode src dst range) =
    λ reply new. (view : ViewValue) × IsViewRead (marked_held (slot_named old src)) range (Ok view)
    × Gives Done (slice_set (slice_set old src (slot_read (slot_named old src) view)) dst (View view)) reply new
Does old (Drop target) = Gives Done (slice_set old target Free)
Does old (Show target) = λ reply new. IsShown (slot_named old target) reply × (new ≡ old)

-- One command. Refused for a failed allocation, where it may be; refused for the first cause that holds, or, where none
-- holds, for what may fail; or done
abbrev pub Step : List Slot → Cmd → Reply → List Slot → Type 0
Step old command (Refused Memory) new =
    (refusal_for old command ≡ None) × MayWantMemory old command × MayFree (consumed command) old new
Step old command (Refused refusal) new =
    ((refusal_for old command ≡ Some refusal) ⊎ ((refusal_for old command ≡ None) × MayFail old command refusal)) × (new ≡ old)
Step old command reply new = (refusal_for old command ≡ None) × Does old command reply new

-- these commands are answered so, one step after another
abbrev pub Run : List Slot → List Cmd → List Reply → List Slot → Type 0
Run old [] [] new = new ≡ old
Run old (command ∷ commands) (reply ∷ replies) new = (mid : List Slot) × Step old command reply mid × Run mid commands replies new
Run old _ _ new = ⊥

-- the command that puts a view at this end of an `IoBufs`
abbrev pub joining : End → ℕ → ℕ → Cmd
joining Back target src = Append target src
joining Front target src = Prepend target src

-- the answer, or the refusal
abbrev pub reply_of : Result Reply Refusal → Reply
reply_of (Ok reply) = reply
reply_of (Err refusal) = Refused refusal
