-- Drained buffers are last in the deque, and first in the order of bytes, so that reading begins with the first entry.
--     in_order         the buffers of a deque in order, of which n at its end are drained
--     first_drained    the deque without the first bytes of its first buffer
--     AreBehind        n buffers at the end hold no bytes
--     HaveNoSpare      the first n buffers are full
--     AreKept          the buffers in order are parts, with the sums of all, of which the first `full` are full
use Rattle.std.specs.Prelude.{◌≡◌, ℕ, zero, suc, ◌-◌, ◌≤◌, List, [], ◌∷◌, ◌++◌, length, drop, take}
use Rattle.iobufs_core.specs.Part.{Part, part_drained}
use Rattle.iobufs.specs.Inside.PartSums.{AreSummed}
use Rattle.iobufs.specs.Parts.{IsParts, parts_filled}

abbrev pub in_order : List Part → ℕ → List Part
in_order row used = drop (length row - used) row ++ take (length row - used) row

-- the first part of the row without its first n bytes
abbrev pub first_drained : List Part → ℕ → List Part
first_drained [] n = []
first_drained (part ∷ row) n = part_drained part n ∷ row

-- so many parts at the back of the row hold no bytes
pub record AreBehind (row : List Part) (used : ℕ) : Type 0 where
  pub within : used ≤ length row
  pub empty : length (parts_filled (drop (length row - used) row)) ≡ 0

-- the first n parts have no spare capacity
abbrev pub HaveNoSpare : ℕ → List Part → Type 0
HaveNoSpare zero parts = Unit {0}
HaveNoSpare (suc n) [] = ⊥
HaveNoSpare (suc n) (part ∷ parts) = (part.spare ≡ 0) × HaveNoSpare n parts

pub record AreKept (row : List Part) (used full len capacity : ℕ) : Type 0 where
  pub behind : AreBehind row used
  pub no_spare : HaveNoSpare full (in_order row used)
  pub sums : AreSummed (in_order row used) len capacity
  pub parts : IsParts (in_order row used)
