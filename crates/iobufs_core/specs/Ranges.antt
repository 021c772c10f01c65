-- Ranges of lengths, and of places.
--     in_range                           a length is one that a reader admits, both ends included
--     is_above, is_below, lies_within    a number satisfies the lower bound, the upper bound, and both
--     highest_place                      the last number that an upper bound admits, if any
use Rattle.std.specs.Prelude.{ℕ, ◌-◌, ◌^◌, Bool, true, ◌&&◌, ◌==◌, nat_le, nat_lt, Option, Some, None, if◌then◌else◌}
use Rattle.std.specs.declared.ops.Bound.{Bound}
use Rattle.std.specs.declared.ops.Bound.TheVariants.{Included, Excluded, Unbounded}
use Rattle.iobufs_core.specs.declared.codec.base.RangeCfg.{RangeCfg}

-- both ends of a range are in it
abbrev pub in_range : RangeCfg → ℕ → Bool
in_range range n = nat_le range.lo n && nat_le n range.hi

-- a number is between two bounds
abbrev pub is_above : Bound ℕ → ℕ → Bool
is_above (Included low) n = nat_le low n
is_above (Excluded low) n = nat_lt low n
is_above Unbounded n = true

abbrev pub is_below : Bound ℕ → ℕ → Bool
is_below (Included high) n = nat_le n high
is_below (Excluded high) n = nat_lt n high
is_below Unbounded n = true

abbrev pub lies_within : Bound ℕ → Bound ℕ → ℕ → Bool
lies_within lo hi n = is_above lo n && is_below hi n

-- the highest number that an upper bound admits; None where there is none
abbrev pub highest_place : Bound ℕ → Option ℕ
highest_place (Included n) = Some n
highest_place (Excluded n) = if n == 0 then None else Some (n - 1)
highest_place Unbounded = Some (2 ^ 64 - 1)
