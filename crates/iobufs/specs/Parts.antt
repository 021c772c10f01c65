-- The value of an `IoBufsMut`: a list of parts.
--     IsParts, HaveCapacity                          what holds of them: at least one, and of several each can hold a
--                                                    byte
--     parts_filled, parts_spare, parts_capacity      the bytes of all, the spare capacity of all, and the sum of both
--     parts_or_default, with_capacity, kept_parts    at least one part; those that can hold a byte; and both of these
--     parts_fill                                     bytes written into the spare capacity, in order
--     parts_drained, parts_shared_out                what remains when bytes are dropped or copied out; and if each
--                                                    part is kept
--     parts_with_len, parts_overwritten              n bytes filled; other bytes written over them
--     parts_chunks, parts_frozen                     the chunks that a reader sees, and the `IoBufs` that they freeze
--                                                    to
--     single_part, parts_coalesced                   the only part, and all as one part
use Rattle.std.specs.Prelude.{ℕ, Option, None, Some, ◌-◌, ◌^◌, ◌<◌, min, ◌==◌, nat_lt, if◌then◌else◌, List, [], ◌∷◌, length, take, drop, map, filter, flat_map}
use Rattle.std.specs.List.{sum_by}
use Rattle.iobufs_core.specs.Chunks.{full_chunks}
use Rattle.iobufs_core.specs.MarkedText.{MarkedText, joined}
use Rattle.iobufs_core.specs.Part.{Part, empty_part, part_capacity, part_drained, part_frozen, part_overwritten, part_put, part_with_len}

-- the bytes that can be read
abbrev pub parts_filled : List Part → List ℕ
parts_filled parts = flat_map (λ part. part.filled) parts

-- how many more fit
abbrev pub parts_spare : List Part → ℕ
parts_spare parts = sum_by (λ part. part.spare) parts

abbrev pub parts_capacity : List Part → ℕ
parts_capacity parts = sum_by part_capacity parts

-- each part can hold a byte
abbrev pub HaveCapacity : List Part → Type 0
HaveCapacity [] = Unit {0}
HaveCapacity (part ∷ parts) = (0 < part_capacity part) × HaveCapacity parts

-- there is a part; where there are more, each can hold a byte; and a number can hold the capacity of all
pub record IsParts (parts : List Part) : Type 0 where
  pub some : 0 < length parts
  pub have_capacity : 1 < length parts → HaveCapacity parts
  pub fits : parts_capacity parts < 2 ^ 64

-- the parts, or where there are none one that can't hold a byte
abbrev pub parts_or_default : List Part → List Part
parts_or_default [] = empty_part 0 ∷ []
parts_or_default (part ∷ parts) = part ∷ parts

-- the parts that can hold a byte
abbrev pub with_capacity : List Part → List Part
with_capacity parts = filter (λ part. nat_lt 0 (part_capacity part)) parts

abbrev pub kept_parts : List Part → List Part
kept_parts parts = parts_or_default (with_capacity parts)

-- each part takes what fits, and the rest goes on to the next
abbrev pub parts_fill : List Part → List ℕ → List Part
parts_fill [] bytes = []
parts_fill (part ∷ parts) bytes = part_put part (take part.spare bytes) ∷ parts_fill parts (drop part.spare bytes)

-- each part loses its share of the first n bytes, and keeps its spare capacity
abbrev pub parts_shared_out : List Part → ℕ → List Part
parts_shared_out [] n = []
parts_shared_out (part ∷ parts) n = part_drained part n ∷ parts_shared_out parts (n - length part.filled)

-- without the first n bytes: each part loses its share of them and keeps its spare capacity; with two or more, those that can't
-- hold a byte any more go
abbrev pub parts_drained : List Part → ℕ → List Part
parts_drained [] n = []
parts_drained (part ∷ []) n = part_drained part n ∷ []
parts_drained (p ∷ q ∷ parts) n = if n == 0 then p ∷ q ∷ parts else kept_parts (parts_shared_out (p ∷ q ∷ parts) n)

-- n bytes filled, each part as far as its capacity goes; bytes that were not are zero
abbrev pub parts_with_len : List Part → ℕ → List Part
parts_with_len [] n = []
parts_with_len (part ∷ parts) n = part_with_len part (min n (part_capacity part)) ∷ parts_with_len parts (n - part_capacity part)

-- as many other bytes, written over those that are filled
abbrev pub parts_overwritten : List Part → List ℕ → List Part
parts_overwritten [] bytes = []
parts_overwritten (part ∷ parts) bytes =
    part_overwritten part (take (length part.filled) bytes) ∷ parts_overwritten parts (drop (length part.filled) bytes)

-- the filled bytes of each part that holds some
abbrev pub parts_chunks : List Part → List (List ℕ)
parts_chunks parts = full_chunks (map (λ part. part.filled) parts)

-- the parts that hold bytes as native chunks, in order
abbrev pub parts_frozen : List Part → MarkedText
parts_frozen parts = joined (map part_frozen parts)

-- the only part, if there is just one
abbrev pub single_part : List Part → Option Part
single_part (part ∷ []) = Some part
single_part parts = None

-- one part as it is, more as a copy with no capacity after it
abbrev pub parts_coalesced : List Part → Part
parts_coalesced [] = empty_part 0
parts_coalesced (part ∷ []) = part
parts_coalesced (p ∷ q ∷ parts) = record { filled = parts_filled (p ∷ q ∷ parts); spare = 0 }
