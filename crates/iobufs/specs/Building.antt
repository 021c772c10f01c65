-- The value of a builder: inline bytes and pushed views, in order.
--     Building, building_items                          the items of a builder: no inline run is empty, and no two
--                                                       are neighbours
--     empty_building, inline_run                        a builder with space for n inline bytes; inline bytes as an
--                                                       item, or as none
--     IsBuilding, AreInTurn                             what holds of each builder: inline bytes fit the capacity,
--                                                       and up to the last view each inline run comes before a view
--     building_put, building_push                       what a put and a push add
--     building_with, building_after                     what an item adds, and a list of them
--     building_bytes, building_room, room_for_pushes    all bytes, and how many puts and pushes may still add
--     views_from                                        items as views; the inline ones have native storage of this
--                                                       capacity
--     finished                                          the `IoBufs` that is made of it
use Rattle.std.specs.Prelude.{ℕ, ◌+◌, ◌-◌, ◌^◌, ◌<◌, ◌≤◌, ◌==◌, if◌then◌else◌, List, [], ◌∷◌, ◌++◌, length}
use Rattle.iobufs_core.specs.View.{View, native_mark}
use Rattle.iobufs_core.specs.MarkedText.{MarkedText, joined}
use Rattle.iobufs_core.specs.Items.{PutOrPush, put_item, push_item, items_bytes, items_inline, items_pushed}

-- room for so many inline bytes, the items up to the last view, and the inline bytes after it
pub record Building : Type 0 where
  pub capacity : ℕ
  pub front : List PutOrPush
  pub last : List ℕ

abbrev pub empty_building : ℕ → Building
empty_building capacity = record { capacity = capacity; front = []; last = [] }

-- inline bytes are one item, and none where there are none
abbrev pub inline_run : List ℕ → List PutOrPush
inline_run [] = []
inline_run (byte ∷ bytes) = put_item (byte ∷ bytes) ∷ []

abbrev pub building_items : Building → List PutOrPush
building_items b = b.front ++ inline_run b.last

-- no item is empty, and after each inline text stands a view
abbrev pub AreInTurn : List PutOrPush → Type 0
AreInTurn [] = Unit {0}
AreInTurn (push_item view ∷ items) = (0 < length view.bytes) × AreInTurn items
AreInTurn (put_item bytes ∷ push_item view ∷ items) = (0 < length bytes) × (0 < length view.bytes) × AreInTurn items
AreInTurn (put_item bytes ∷ items) = ⊥

-- the inline bytes fit the capacity, and this and the pushed bytes together a number
pub record IsBuilding (b : Building) : Type 0 where
  pub in_turn : AreInTurn b.front
  pub within : items_inline b.front + length b.last ≤ b.capacity
  pub fits : b.capacity + items_pushed b.front < 2 ^ 64

-- a put lengthens a last inline text, or begins one
abbrev pub building_put : Building → List ℕ → Building
building_put b bytes = record { capacity = b.capacity; front = b.front; last = b.last ++ bytes }

-- a push adds a view; an empty one changes nothing
abbrev pub building_push : Building → View → Building
building_push b view =
    if length view.bytes == 0 then b
    else record { capacity = b.capacity; front = b.front ++ (inline_run b.last ++ push_item view ∷ []); last = [] }

abbrev pub building_with : Building → PutOrPush → Building
building_with b (put_item bytes) = building_put b bytes
building_with b (push_item view) = building_push b view

-- these puts and pushes, one after another
abbrev pub building_after : Building → List PutOrPush → Building
building_after b [] = b
building_after b (item ∷ items) = building_after (building_with b item) items

abbrev pub building_bytes : Building → List ℕ
building_bytes b = items_bytes b.front ++ b.last

-- how many bytes may still be put, and how many pushed
abbrev pub building_room : Building → ℕ
building_room b = b.capacity - (items_inline b.front + length b.last)

abbrev pub room_for_pushes : Building → ℕ
room_for_pushes b = 2 ^ 64 - 1 - b.capacity - items_pushed b.front

-- the views of items: an inline text is native, with the capacity after its place
abbrev pub views_from : ℕ → List PutOrPush → List View
views_from room [] = []
views_from room (put_item bytes ∷ items) = record { bytes = bytes; mark = native_mark room } ∷ views_from (room - length bytes) items
views_from room (push_item view ∷ items) = view ∷ views_from room items

-- all items as one `IoBufs`
abbrev pub finished : Building → MarkedText
finished b = joined (views_from b.capacity (building_items b))
