-- The encoding of a value, in order: bytes that are put inline, and views that are pushed.
--     PutOrPush, put_item, push_item    bytes that are copied inline, or a view that is pushed as it is
--     item_bytes, items_bytes      the bytes that a reader will see of an item, and of a list in order
--     item_inline, items_inline    how many of these bytes are copied
--     item_pushed, items_pushed    how many are pushed
--     IsBegun                      a write that failed on its way: a prefix of the bytes was written after the old
--                                  ones
use Rattle.std.specs.Prelude.{◌≡◌, ℕ, ◌+◌, List, [], ◌∷◌, ◌++◌, length}
use Rattle.iobufs_core.specs.View.{View}

pub data PutOrPush : Type 0 where
  put_item : List ℕ → PutOrPush
  push_item : View → PutOrPush

abbrev pub item_bytes : PutOrPush → List ℕ
item_bytes (put_item bytes) = bytes
item_bytes (push_item view) = view.bytes

-- how many bytes are put, and how many pushed
abbrev pub item_inline : PutOrPush → ℕ
item_inline (put_item bytes) = length bytes
item_inline (push_item view) = 0

abbrev pub item_pushed : PutOrPush → ℕ
item_pushed (put_item bytes) = 0
item_pushed (push_item view) = length view.bytes

abbrev pub items_bytes : List PutOrPush → List ℕ
items_bytes [] = []
items_bytes (item ∷ items) = item_bytes item ++ items_bytes items

abbrev pub items_inline : List PutOrPush → ℕ
items_inline [] = 0
items_inline (item ∷ items) = item_inline item + items_inline items

abbrev pub items_pushed : List PutOrPush → ℕ
items_pushed [] = 0
items_pushed (item ∷ items) = item_pushed item + items_pushed items

-- bytes after which a prefix of others was written
pub record IsBegun (old bytes new : List ℕ) : Type 0 where
  pub front : List ℕ
  pub back : List ℕ
  pub whole : front ++ back ≡ bytes
  pub left : new ≡ old ++ front
