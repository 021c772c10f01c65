-- The buffers that names hold, and how a command changes them.
--     slot_named                                    what a name holds, which is nothing if there is no such name
--     IsSlot, AreSlots                              what is held is well formed, and so is each name
--     is_free, is_part, is_view, is_text,           nothing is held, or which of the four kinds
--     is_parts, is_of, is_one_of, kind_of
--     is_static_view, is_native_view,               a view of static bytes, of native storage, and one that never
--     is_fixed_view                                 becomes a part
--     is_static_mark, is_native_mark,               such marks
--     is_fixed_mark
--     bytes_held, readable, writable,               the bytes that can be read, their number, how many can be put,
--     slot_capacity                                 and both numbers together
--     slot_put, slot_overwritten, slot_with_len,    with bytes put, with bytes written over, filled to a length, cut
--     slot_truncated                                to one
--     slot_frozen, slot_recovered,                  made read-only; made writable again, with the capacity after the
--     recovered_spare                               bytes
--     slot_sliced, is_empty_range                   a range of a view; whether it has no bytes
--     slot_split_front, slot_rest                   what a split returns and leaves
--     slot_advanced, slot_copied                    without the first n bytes: skipped, and copied out
--     view_held, text_held, part_held,              what is held as one kind, or the empty one; and a view or an `IoBufs`
--     marked_held                                   as a marked text
--     slot_read                                     what is left after a view was read
--     slot_joined                                   an `IoBufs` with a view added at one end
--     slot_coalesced, is_in_pieces, is_too_large    all as one chunk; whether that has to copy, and whether no
--                                                   storage can hold the copy
--     extent                                        how much a buffer counts among those that it is joined with
--     shown_piece, pieces_of, Shows, IsShown        what a reply shows: the kind, and each chunk with its bytes and
--                                                   their spare capacity
--     view_encoded                                  an `IoBufs` of a view's length followed by the view
use Rattle.std.specs.Prelude.{◌≡◌, ℕ, Bool, true, false, ◌-◌, ◌<◌, ◌^◌, ◌==◌, ◌&&◌, not, nat_le, nat_lt, Option, Some, None, List, [], ◌∷◌, length, map, slice_index_or, unwrap_or}
use Rattle.std.specs.List.{list_any}
use Rattle.iobufs_core.specs.Part.{Part as PartValue, empty_part, part_capacity, part_copied, part_drained, part_frozen, part_put, part_overwritten, part_truncated, part_with_len}
use Rattle.iobufs_core.specs.Spelling.{spell}
use Rattle.iobufs_core.specs.Wire.{view_items, view_left}
use Rattle.iobufs.specs.Building.{building_after, empty_building, finished}
use Rattle.iobufs.specs.Parts.{IsParts, parts_filled, parts_spare, parts_fill, parts_frozen, parts_drained, parts_coalesced, parts_capacity, parts_overwritten, parts_with_len}
use Rattle.std.specs.declared.ops.Bound.{Bound}
use Rattle.iobufs_core.specs.View.{View as ViewValue, IsView, view_advanced, view_rest, view_slice, view_split_front, start_place, end_place, static_mark, Mark, default_view, bytes_mark, native_mark}
use Rattle.iobufs_core.specs.MarkedText.{MarkedText, IsMarked, default_text, of_view, text_len, text_advanced, text_append, text_prepend, text_split_front, text_rest, text_chunks, text_coalesced, is_single}
use Rattle.iobufs_run.specs.declared.table.Slot.{Slot}
use Rattle.iobufs_run.specs.declared.table.Slot.TheVariants.{Free, Part, View, Text, Parts}
use Rattle.iobufs_run.specs.declared.table.End.{End}
use Rattle.iobufs_run.specs.declared.table.End.TheVariants.{Front, Back}
use Rattle.iobufs_run.specs.declared.command.Piece.{Piece}
use Rattle.iobufs_run.specs.declared.command.Kind.{Kind}
use Rattle.iobufs_run.specs.declared.command.Kind.TheVariants as kind
use Rattle.iobufs_run.specs.declared.command.Reply.{Reply}
use Rattle.iobufs_run.specs.declared.command.Reply.TheVariants.{Shown}

-- the slot of a name, `Free` if there is no such name
abbrev pub slot_named : List Slot → ℕ → Slot
slot_named names name = slice_index_or names name Free

-- a buffer that a name holds is well formed: a part, a view, a marked text, or a list of parts, of a length or a
-- capacity that a number can say
abbrev pub IsSlot : Slot → Type 0
IsSlot Free = Unit {0}
IsSlot (Part part) = part_capacity part < 2 ^ 64
IsSlot (View view) = IsView view × (length view.bytes < 2 ^ 64)
IsSlot (Text text) = IsMarked text × (text_len text < 2 ^ 64)
IsSlot (Parts parts) = IsParts parts

-- each name holds such a slot
abbrev pub AreSlots : List Slot → Type 0
AreSlots names = (name : ℕ) → IsSlot (slot_named names name)

abbrev pub is_free : Slot → Bool
is_free Free = true
is_free _ = false

abbrev pub is_part : Slot → Bool
is_part (Part part) = true
is_part _ = false

abbrev pub is_view : Slot → Bool
is_view (View view) = true
is_view _ = false

abbrev pub is_static_mark : Mark → Bool
is_static_mark static_mark = true
is_static_mark _ = false

abbrev pub is_text : Slot → Bool
is_text (Text text) = true
is_text _ = false

abbrev pub is_parts : Slot → Bool
is_parts (Parts parts) = true
is_parts _ = false

-- a view of a static slice
abbrev pub is_static_view : Slot → Bool
is_static_view (View view) = is_static_mark view.mark
is_static_view _ = false

-- a view of native storage, which may be shared
abbrev pub is_native_mark : Mark → Bool
is_native_mark (native_mark room) = true
is_native_mark _ = false

abbrev pub is_native_view : Slot → Bool
is_native_view (View view) = is_native_mark view.mark
is_native_view _ = false

-- a view that never becomes a part: of a `Bytes`, or of a static slice that holds bytes
abbrev pub is_fixed_mark : Mark → ℕ → Bool
is_fixed_mark bytes_mark len = true
is_fixed_mark static_mark len = not (len == 0)
is_fixed_mark (native_mark room) len = false

abbrev pub is_fixed_view : Slot → Bool
is_fixed_view (View view) = is_fixed_mark view.mark (length view.bytes)
is_fixed_view _ = false

-- the bytes that can be read, how many there are, and how many can be put
abbrev pub bytes_held : Slot → List ℕ
bytes_held Free = []
bytes_held (Part part) = part.filled
bytes_held (View view) = view.bytes
bytes_held (Text text) = text.bytes
bytes_held (Parts parts) = parts_filled parts

abbrev pub readable : Slot → ℕ
readable Free = 0
readable (Part part) = length part.filled
readable (View view) = length view.bytes
readable (Text text) = text_len text
readable (Parts parts) = length (parts_filled parts)

abbrev pub writable : Slot → ℕ
writable (Part part) = part.spare
writable (Parts parts) = parts_spare parts
writable _ = 0

-- the capacity of a buffer, or the sum of those of several
abbrev pub slot_capacity : Slot → ℕ
slot_capacity (Part part) = part_capacity part
slot_capacity (Parts parts) = parts_capacity parts
slot_capacity _ = 0

abbrev pub slot_put : Slot → List ℕ → Slot
slot_put (Part part) bytes = Part (part_put part bytes)
slot_put (Parts parts) bytes = Parts (parts_fill parts bytes)
slot_put slot bytes = slot

-- filled to n bytes; cut to n; and with other bytes written over those that are filled
abbrev pub slot_with_len : Slot → ℕ → Slot
slot_with_len (Part part) n = Part (part_with_len part n)
slot_with_len (Parts parts) n = Parts (parts_with_len parts n)
slot_with_len slot n = slot

abbrev pub slot_truncated : Slot → ℕ → Slot
slot_truncated (Part part) n = Part (part_truncated part n)
slot_truncated slot n = slot

abbrev pub slot_overwritten : Slot → List ℕ → Slot
slot_overwritten (Part part) bytes = Part (part_overwritten part bytes)
slot_overwritten (Parts parts) bytes = Parts (parts_overwritten parts bytes)
slot_overwritten slot bytes = slot

abbrev pub slot_frozen : Slot → Slot
slot_frozen (Part part) = View (part_frozen part)
slot_frozen (Parts parts) = Text (parts_frozen parts)
slot_frozen slot = slot

-- the part that a view recovers to: its bytes, and the capacity after them
abbrev pub recovered_spare : Mark → ℕ → ℕ
recovered_spare (native_mark room) len = room - len
recovered_spare _ len = 0

abbrev pub slot_recovered : Slot → Slot
slot_recovered (View view) = Part (record { filled = view.bytes; spare = recovered_spare view.mark (length view.bytes) })
slot_recovered slot = slot

-- the bytes of a view in a range; and whether a range has none
abbrev pub slot_sliced : Slot → Bound ℕ → Bound ℕ → Slot
slot_sliced (View view) lo hi = View (view_slice view lo hi)
slot_sliced slot lo hi = slot

abbrev pub is_empty_range : Bound ℕ → Bound ℕ → ℕ → Bool
is_empty_range lo hi len = unwrap_or (start_place lo) 0 == unwrap_or (end_place hi len) 0

-- the front that a split returns, and the rest that it leaves
abbrev pub slot_split_front : Slot → ℕ → Slot
slot_split_front (View view) at = View (view_split_front view at)
slot_split_front (Text text) at = Text (text_split_front text at)
slot_split_front slot at = slot

abbrev pub slot_rest : Slot → ℕ → Slot
slot_rest (View view) at = View (view_rest view at)
slot_rest (Text text) at = Text (text_rest text at)
slot_rest slot at = slot

abbrev pub slot_advanced : Slot → ℕ → Slot
slot_advanced Free n = Free
slot_advanced (Part part) n = Part (part_drained part n)
slot_advanced (View view) n = View (view_advanced view n)
slot_advanced (Text text) n = Text (text_advanced text n)
slot_advanced (Parts parts) n = Parts (parts_drained parts n)

-- the rest after n bytes are copied out
abbrev pub slot_copied : Slot → ℕ → Slot
slot_copied Free n = Free
slot_copied (Part part) n = Part (part_copied part n)
slot_copied (View view) n = View (view_rest view n)
slot_copied (Text text) n = Text (text_rest text n)
slot_copied (Parts parts) n = Parts (parts_drained parts n)

-- the view that is held, the default one if there is none; so the `IoBufs` and the part
abbrev pub view_held : Slot → ViewValue
view_held (View view) = view
view_held _ = default_view

abbrev pub text_held : Slot → MarkedText
text_held (Text text) = text
text_held _ = default_text

abbrev pub part_held : Slot → PartValue
part_held (Part part) = part
part_held _ = empty_part 0

-- the slot's marked text, of one chunk for a view; and the rest after a view is read from it
abbrev pub marked_held : Slot → MarkedText
marked_held (View view) = of_view view
marked_held slot = text_held slot

abbrev pub slot_read : Slot → ViewValue → Slot
slot_read (View view) taken = View (record { bytes = (view_left (of_view view) taken).bytes; mark = (view_left (of_view view) taken).mark })
slot_read (Text text) taken = Text (view_left text taken)
slot_read slot taken = slot

-- an `IoBufs` at an end of which a view is put
abbrev pub slot_joined : End → Slot → Slot → Slot
slot_joined Back (Text text) slot = Text (text_append text (view_held slot))
slot_joined Front (Text text) slot = Text (text_prepend text (view_held slot))
slot_joined end other slot = other

-- an `IoBufs` as one chunk, and parts as one
abbrev pub slot_coalesced : Slot → Slot
slot_coalesced (Text text) = View (record { bytes = (text_coalesced text).bytes; mark = (text_coalesced text).mark })
slot_coalesced (Parts parts) = Part (parts_coalesced parts)
slot_coalesced slot = slot

-- an `IoBufs` in several chunks, or several parts that hold bytes; and whether no storage can hold all of its bytes
abbrev pub is_in_pieces : Slot → Bool
is_in_pieces (Text text) = not (is_single text)
is_in_pieces (Parts parts) = nat_lt 1 (length parts) && not (length (parts_filled parts) == 0)
is_in_pieces _ = false

abbrev pub is_too_large : Slot → Bool
is_too_large slot = is_in_pieces slot && nat_le (2 ^ 63) (readable slot)

-- of this kind
abbrev pub is_of : Kind → Slot → Bool
is_of kind.Part slot = is_part slot
is_of kind.View slot = is_view slot
is_of kind.Text slot = is_text slot
is_of kind.Parts slot = is_parts slot

-- of one of these kinds
abbrev pub is_one_of : List Kind → Slot → Bool
is_one_of kinds slot = list_any (λ kind. is_of kind slot) kinds

-- how much it counts among others that it is put together with: a part by its capacity
abbrev pub extent : Slot → ℕ
extent (Part part) = part_capacity part
extent slot = readable slot

-- a chunk that is shown: its bytes, and the capacity after them
abbrev pub shown_piece : Piece → List ℕ × ℕ
shown_piece piece = (piece.bytes.items, piece.spare)

-- the kind of what is held, and its chunks: one of a part or a view, the chunks of an `IoBufs`, and each of several parts
abbrev pub kind_of : Slot → Option Kind
kind_of Free = None
kind_of (Part part) = Some kind.Part
kind_of (View view) = Some kind.View
kind_of (Text text) = Some kind.Text
kind_of (Parts parts) = Some kind.Parts

abbrev pub pieces_of : Slot → List (List ℕ × ℕ)
pieces_of Free = []
pieces_of (Part part) = (part.filled, part.spare) ∷ []
pieces_of (View view) = (view.bytes, 0) ∷ []
pieces_of (Text text) = map (λ chunk. (chunk, 0)) (text_chunks text)
pieces_of (Parts parts) = map (λ part. (part.filled, part.spare)) parts

-- the slot is shown as this kind, by these chunks
abbrev pub Shows : Slot → Kind → List (List ℕ × ℕ) → Type 0
Shows slot kind pieces = (kind_of slot ≡ Some kind) × (pieces ≡ pieces_of slot)

-- the reply shows what is held
abbrev pub IsShown : Slot → Reply → Type 0
IsShown slot (Shown kind pieces) = Shows slot kind (map shown_piece pieces.items)
IsShown slot _ = ⊥

-- a view as it is encoded: its length in room of exactly that size, and the view after it
abbrev pub view_encoded : ViewValue → MarkedText
view_encoded view = finished (building_after (empty_building (length (spell (length view.bytes)))) (view_items view))
