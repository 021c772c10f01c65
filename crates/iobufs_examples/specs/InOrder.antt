-- Two values that were written one after the other.
--     AreReadInOrder    the first is read back, then the second, and what followed is left; or an allocation failed
use Rattle.std.specs.Prelude.{◌≡◌, List, ℕ, Result, Ok, Err}
use Rattle.iobufs_core.specs.declared.codec.base.Error.{Error}
use Rattle.iobufs_core.specs.declared.codec.base.Error.TheVariants.{Memory}

-- both are read back, and what followed them is left; or an allocation failed
abbrev pub AreReadInOrder : {First Second : Type 0} → (First → First → Type 0) → (Second → Second → Type 0) → First → Second
    → List ℕ → List ℕ → Result (First × Second) Error → Type 0
AreReadInOrder same_first same_second first second rest left (Ok read) = same_first first read.0 × same_second second read.1 × (left ≡ rest)
AreReadInOrder same_first same_second first second rest left (Err error) = error ≡ Memory
