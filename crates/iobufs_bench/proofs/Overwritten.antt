-- Writing over a list keeps its length.
use Rattle.std.proofs.Common.{◌≡◌, ℕ, List, [], ◌∷◌, ◌++◌, length, take, drop, refl, arith, length-append, length-take, length-drop}
use Rattle.iobufs_core.specs.Part.{Part, part_overwritten}
use Rattle.iobufs.specs.Parts.{parts_filled, parts_overwritten}

length-part : (part : Part) (bytes : List ℕ) → length (part_overwritten part bytes).filled ≡ length part.filled
length-part part bytes =
    omega (
      arith,
      length-take (length part.filled) (bytes ++ drop (length bytes) part.filled),
      length-append bytes (drop (length bytes) part.filled),
      length-drop (length bytes) part.filled,
    )

pub length_overwritten : (parts : List Part) (bytes : List ℕ)
    → length (parts_filled (parts_overwritten parts bytes)) ≡ length (parts_filled parts)
length_overwritten [] bytes = refl
length_overwritten (part ∷ parts) bytes =
    let share = take (length part.filled) bytes in
    let rest = drop (length part.filled) bytes in
    omega (
      arith,
      length-part part share,
      length_overwritten parts rest,
      length-append (part_overwritten part share).filled (parts_filled (parts_overwritten parts rest)),
      length-append part.filled (parts_filled parts),
    )
