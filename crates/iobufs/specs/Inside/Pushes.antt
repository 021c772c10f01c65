-- How the fields of a builder are read: inline bytes, and views between them.
--     items_front                   inline bytes distributed to the gaps between the pushed views, as items in order
--     building_from, building_of    what has been written, read from the bytes, the segments and how many bytes have
--                                   their gap; and from a builder
--     IsBuilder                     the invariant of a builder's fields: how many bytes have their gap, a free entry
--                                   for those after the last view, how much may still be pushed
use Rattle.std.specs.Prelude.{◌≡◌, ◌≤◌, ◌<◌, ℕ, ◌+◌, ◌^◌, List, [], ◌∷◌, ◌++◌, length, take, drop}
use Rattle.iobufs_core.specs.Items.{PutOrPush, push_item}
use Rattle.iobufs_core.specs.Part.{Part, part_capacity}
use Rattle.iobufs.specs.Building.{Building, inline_run}
use Rattle.iobufs.specs.Inside.Gaps.{AreSegments, gaps_len, stood_len}
use Rattle.iobufs.specs.Inside.RowValues.{Segment, gap, standing}
use Rattle.iobufs.specs.declared.builder.Builder.TheInside.{Inside}

-- the items up to the last view
abbrev pub items_front : List ℕ → List Segment → List PutOrPush
items_front bytes [] = []
items_front bytes (gap n ∷ segments) = inline_run (take n bytes) ++ items_front (drop n bytes) segments
items_front bytes (standing view ∷ segments) = push_item view ∷ items_front bytes segments

-- the last of the inline bytes follow the last view
abbrev pub building_from : Part → List Segment → ℕ → Building
building_from part segments placed = record
    { capacity = part_capacity part; front = items_front part.filled segments; last = drop placed part.filled }

abbrev pub building_of : Inside → Building
building_of b = building_from b.inline b.pushes.segments b.placed

-- the invariant of a builder's fields
pub record IsBuilder (b : Inside) : Type 0 where
  pub counted : gaps_len b.pushes.segments ≡ b.placed
  pub within : b.placed ≤ length b.inline.filled
  pub segments : AreSegments b.pushes.segments
  pub roomy : 0 < length b.pushes.segments → length b.pushes.segments < b.pushes.room
  pub limited : part_capacity b.inline + stood_len b.pushes.segments + b.pushable + 1 ≡ 2 ^ 64
