-- Why an `IoBufsMut` was not made.
--     IsRowRefusedAt    with the last buffer, the capacity is more than a number holds (`TooLong`), or an allocation
--                       failed
use Rattle.std.specs.Prelude.{◌≡◌, ◌<◌, ◌^◌, nat_lt, if◌then◌else◌, List, [], ◌∷◌, ◌++◌}
use Rattle.iobufs_core.specs.Part.{Part, part_capacity}
use Rattle.iobufs_core.specs.declared.codec.base.BufError.{BufError}
use Rattle.iobufs_core.specs.declared.codec.base.BufError.TheVariants.{Memory, TooLong}
use Rattle.iobufs.specs.Parts.{parts_capacity}

-- the last part was refused: it can hold a byte, and so can one before it; with it there is too much capacity, or an
-- allocation failed
pub record IsRowRefusedAt (parts : List Part) (cause : BufError) : Type 0 where
  pub front : List Part
  pub last : Part
  pub parts_are : parts ≡ front ++ last ∷ []
  pub some : 0 < parts_capacity front
  pub fits : parts_capacity front < 2 ^ 64
  pub more : 0 < part_capacity last
  pub told : cause ≡ (if nat_lt (parts_capacity parts) (2 ^ 64) then Memory else TooLong)
