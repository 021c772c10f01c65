-- The results of reading an encoded value back, and of reading equal bytes in other chunks.
--     IsReadBack     the value itself is read back, or an allocation failed
--     AreReadBack    bytes that were written are read back and what followed them is left, or an allocation failed
--     IsCodec        values of a type are read back as they were written, and no encoding is a prefix of another value's
--     IsReadAlike    two readers get the same value or the same error, unless an allocation failed for one of them
use Rattle.std.specs.Prelude.{◌≡◌, ◌⊎◌, ℕ, List, ◌++◌, length, take, Result, Ok, Err}
use Rattle.iobufs_core.specs.Dropping.{Dropping, dropped_len}
use Rattle.iobufs_core.specs.MarkedText.{MarkedText}
use Rattle.iobufs_core.specs.View.{View}
use Rattle.iobufs_core.specs.declared.codec.base.Error.{Error}
use Rattle.iobufs_core.specs.declared.codec.base.Error.TheVariants.{Memory}

-- the value is read back, or an allocation failed
abbrev pub IsReadBack : {Value : Type 0} → (Value → Value → Type 0) → Value → Result Value Error → Type 0
IsReadBack same value (Ok read) = same value read
IsReadBack same value (Err error) = error ≡ Memory

-- how values are written, read and dropped, so that each that is admitted is read back, whatever follows it
pub record IsCodec (Value Cfg : Type 0) (written : Value → List ℕ) (is_read : MarkedText → Cfg → Result Value Error → Type 0)
    (dropping : Value → List Dropping) (same : Value → Value → Type 0) (admits : Cfg → Value → Type 0) : Type 0 where
  -- an admitted value is read back, whatever follows its encoding
  pub gives_back : (value : Value) (cfg : Cfg) (text : MarkedText) (rest : List ℕ) (answer : Result Value Error) → admits cfg value
      → text.bytes ≡ written value ++ rest → is_read text cfg answer → IsReadBack same value answer
  -- equal values have one encoding
  pub same_written : (x y : Value) → same x y → written x ≡ written y
  -- no encoding is a prefix of another value's
  pub no_front : (x y : Value) (cfg other : Cfg) (u v : List ℕ) → admits cfg x → admits other y → written x ++ u ≡ written y ++ v → same x y
  -- a value that is read is admitted, and the bytes begin with its encoding
  pub read_written : (value : Value) (cfg : Cfg) (text : MarkedText) → is_read text cfg (Ok value)
      → admits cfg value × (take (length (written value)) text.bytes ≡ written value)
  -- a read drops as many bytes as are written
  pub drops_written : (value : Value) → dropped_len (dropping value) ≡ length (written value)

-- two results are the same value or the same error, unless an allocation failed
abbrev pub IsReadAlike : {Value : Type 0} → (Value → Value → Type 0) → Result Value Error → Result Value Error → Type 0
IsReadAlike same (Ok x) (Ok y) = same x y
IsReadAlike same (Ok x) (Err error) = error ≡ Memory
IsReadAlike same (Err error) (Ok y) = error ≡ Memory
IsReadAlike same (Err error) (Err other) = (error ≡ other) ⊎ ((error ≡ Memory) ⊎ (other ≡ Memory))

-- bytes that were written are read back, and the rest is left; or an allocation failed
abbrev pub AreReadBack : List ℕ → List ℕ → List ℕ → Result View Error → Type 0
AreReadBack body rest left (Ok view) = (view.bytes ≡ body) × (left ≡ rest)
AreReadBack body rest left (Err error) = error ≡ Memory
