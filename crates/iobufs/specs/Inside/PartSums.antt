-- The sums that are kept beside several parts.
--     AreSummed    the numbers kept are how many bytes all parts hold, and how many they can
use Rattle.std.specs.Prelude.{◌≡◌, ℕ, List, length}
use Rattle.iobufs_core.specs.Part.{Part}
use Rattle.iobufs.specs.Parts.{parts_capacity, parts_filled}

-- how many bytes the parts hold, and how many fit
pub record AreSummed (parts : List Part) (len capacity : ℕ) : Type 0 where
  pub len_is : len ≡ length (parts_filled parts)
  pub capacity_is : capacity ≡ parts_capacity parts
