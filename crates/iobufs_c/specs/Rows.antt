-- Bytes that are written over others, and bounds and numbers in C's form.
--     part_written_at                other bytes written over those that are filled, from an offset on
--     bound_from_c                   a bound in C's form
--     is_number                      a number may have this size, and its bytes this order
--     number_eight, number_start     its eight bytes, and where the lowest `size` of them begin
--     number_bytes, number_padded    these lowest bytes, and the eight of a number that has zeros for the others
use Rattle.std.specs.Prelude.{ℕ, ◌+◌, ◌-◌, ◌&&◌, ◌||◌, Bool, nat_le, Option, Some, None, List, ◌++◌, length, take, drop, replicate, ◌==◌, if◌then◌else◌}
use Rattle.std.specs.Int.{to_be_bytes, to_le_bytes, w64}
use Rattle.iobufs_core.specs.Part.{Part, part_overwritten}
use Rattle.std.specs.declared.ops.Bound.{Bound}
use Rattle.std.specs.declared.ops.Bound.TheVariants.{Included, Excluded, Unbounded}

-- other bytes written over those that are filled, from a place on
abbrev pub part_written_at : Part → ℕ → List ℕ → Part
part_written_at part at bytes = part_overwritten part (take at part.filled ++ bytes ++ drop (at + length bytes) part.filled)

-- a bound as C says it: 0 for one that belongs to the range, 1 for one that doesn't, 2 for no bound
abbrev pub bound_from_c : ℕ → ℕ → Option (Bound ℕ)
bound_from_c kind n = if kind == 0 then Some (Included n) else if kind == 1 then Some
    (Excluded n) else if kind == 2 then Some Unbounded else None

-- of 1, 2, 4 or 8 bytes; the order is 0 if the highest is the first, and 1 if it is the last
abbrev pub is_number : ℕ → ℕ → Bool
is_number size order = nat_le order 1 && (size == 1 || (size == 2 || (size == 4 || size == 8)))

abbrev pub number_eight : ℕ → ℕ → List ℕ
number_eight order n = if order == 0 then to_be_bytes w64 n else to_le_bytes w64 n

-- the highest bytes are those before, or after
abbrev pub number_start : ℕ → ℕ → ℕ
number_start size order = if order == 0 then 8 - size else 0

abbrev pub number_bytes : ℕ → ℕ → ℕ → List ℕ
number_bytes size order n = take size (drop (number_start size order) (number_eight order n))

abbrev pub number_padded : ℕ → ℕ → List ℕ → List ℕ
number_padded size order bytes = if order == 0 then replicate (8 - size) 0 ++ bytes else bytes ++ replicate (8 - size) 0
