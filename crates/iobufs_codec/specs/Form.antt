-- The conditions on values that are decoded, and how bytes, `bool` and optional values are decoded.
--     IsForm                            how a value is written and decoded: what is decoded is admitted and is there as it
--                                       is written, no encoding is a prefix of another's, and if one is there only an
--                                       allocation can fail
--     no_memory                         the fault of a failed allocation
--     IsDecodedBack, IsReadBackWhole    a value that was encoded is decoded again, or an allocation fails; the second also
--                                       says that the bytes after it are left
--     IsCodecFault                      a fault is one of these errors
--     behind                            the bytes after the first of an input
--     IsMadeThere                       a length follows the first bytes, and a value was made of a view of that many
--                                       bytes
--     HasStaticViewThere                such a length is there, followed by static bytes
--     IsShortThere                      fewer bytes than these follow the first
--     IsByteAt                          this byte follows the first
--     IsBoolFault                       no byte is there, or one that is neither 0 nor 1
--     IsOptionFound, IsOptionFault      a tag and a value if there is one, and why none is decoded
--     IsSameOption, IsOptionAdmitted    equal if both or neither are there; admitted if it is there
--     IsPairFault                       the first value has a fault, or it is decoded and the second has one
use Rattle.std.specs.Prelude.{◌≡◌, ◌⊎◌, ℕ, ◌+◌, ◌<◌, ◌≤◌, Option, Some, None, List, [], ◌∷◌, ◌++◌, length, take, drop, Result, Ok, Err}
use Rattle.iobufs_core.specs.MarkedText.{MarkedText, taken_view}
use Rattle.iobufs_core.specs.Spelling.{spell}
use Rattle.iobufs_core.specs.View.{View, static_mark}
use Rattle.iobufs_core.specs.Wire.{HasView, IsLengthRead}
use Rattle.iobufs_core.specs.declared.codec.base.RangeCfg.{RangeCfg}
use Rattle.iobufs_core.specs.declared.codec.base.Error.{Error}
use Rattle.iobufs_core.specs.declared.codec.base.Error.TheVariants.{EndOfBuffer, Memory}
use Rattle.iobufs_codec.specs.declared.fault.Fault.{Fault}
use Rattle.iobufs_codec.specs.declared.fault.Fault.TheVariants.{Codec, InvalidBool}

abbrev pub no_memory : Fault
no_memory = Codec Memory

-- the result is a value that is the same, or the fault of a failed allocation
abbrev pub IsDecodedBack : {Value : Type 0} → (Value → Value → Type 0) → Value → Result Value Fault → Type 0
IsDecodedBack same value (Ok decoded) = same value decoded
IsDecodedBack same value (Err fault) = fault ≡ no_memory

-- the result is a value that is the same, and `rest` is left; or the fault of a failed allocation
abbrev pub IsReadBackWhole : {Value : Type 0} → (Value → Value → Type 0) → Value → List ℕ → List ℕ → Result Value Fault → Type 0
IsReadBackWhole same value rest left (Ok read) = same value read × (left ≡ rest)
IsReadBackWhole same value rest left (Err fault) = fault ≡ no_memory

pub record IsForm (Value Cfg : Type 0) (written : Value → List ℕ) (same : Value → Value → Type 0) (admits : Cfg → Value → Type 0)
    (is_found : MarkedText → ℕ → Cfg → Value → Type 0) (is_fault : MarkedText → ℕ → Cfg → Fault → Type 0) : Type 0 where
  -- equal values have one encoding
  pub same_written : (x y : Value) → same x y → written x ≡ written y
  -- the bytes of a value begin those of no other
  pub no_front : (x y : Value) (cfg other : Cfg) (u v : List ℕ) → admits cfg x → admits other y → written x ++ u ≡ written y ++ v → same x y
  -- a value that is found is admitted, and its encoding is there
  pub found_written : (value : Value) (cfg : Cfg) (text : MarkedText) (skip : ℕ) → is_found text skip cfg value
      → admits cfg value × (take (length (written value)) (drop skip text.bytes) ≡ written value)
  -- if an admitted value is there, the only fault is a failed allocation
  pub refuses : (value : Value) (cfg : Cfg) (text : MarkedText) (skip : ℕ) (rest : List ℕ) (fault : Fault) → admits cfg value
      → drop skip text.bytes ≡ written value ++ rest → is_fault text skip cfg fault → fault ≡ no_memory
  -- two faults at equal bytes are equal, unless one is a failed allocation
  pub one_fault : (s t : MarkedText) (skip : ℕ) (cfg : Cfg) (a b : Fault) → s.bytes ≡ t.bytes → is_fault s skip cfg a
      → is_fault t skip cfg b
      → (a ≡ b) ⊎ ((a ≡ no_memory) ⊎ (b ≡ no_memory))

abbrev pub IsCodecFault : (Error → Type 0) → Fault → Type 0
IsCodecFault is (Codec error) = is error
IsCodecFault is other = ⊥

abbrev pub behind : MarkedText → ℕ → MarkedText
behind text skip = record { bytes = drop skip text.bytes; mark = text.mark; cuts = [] }

-- a length in the range follows the first bytes, and the value is made of the bytes after it
pub record IsMadeThere {Value : Type 0} (makes : View → Value → Type 0) (text : MarkedText) (skip : ℕ) (range : RangeCfg)
    (value : Value) : Type 0 where
  pub n : ℕ
  pub read : IsLengthRead (drop skip text.bytes) range (Ok n)
  pub within : length (spell n) + n ≤ length (drop skip text.bytes)
  pub made : makes (taken_view text (skip + length (spell n)) n) value

-- static bytes follow a length in the range there
pub record HasStaticViewThere (text : MarkedText) (skip : ℕ) (range : RangeCfg) : Type 0 where
  pub n : ℕ
  pub there : HasView (behind text skip) range n
  pub static : (taken_view text (skip + length (spell n)) n).mark ≡ static_mark

abbrev pub IsShortThere : MarkedText → ℕ → ℕ → Error → Type 0
IsShortThere text skip n error = (error ≡ EndOfBuffer) × (length (drop skip text.bytes) < n)

abbrev pub IsByteAt : MarkedText → ℕ → ℕ → Type 0
IsByteAt text skip byte = take 1 (drop skip text.bytes) ≡ byte ∷ []

abbrev pub IsBoolFault : MarkedText → ℕ → Fault → Type 0
IsBoolFault text skip fault =
    ((fault ≡ Codec EndOfBuffer) × (drop skip text.bytes ≡ []))
    ⊎ ((fault ≡ InvalidBool) × ((byte : ℕ) × IsByteAt text skip byte × (1 < byte)))

abbrev pub IsSameOption : {Value : Type 0} → (Value → Value → Type 0) → Option Value → Option Value → Type 0
IsSameOption same None None = Unit {0}
IsSameOption same None (Some y) = ⊥
IsSameOption same (Some x) None = ⊥
IsSameOption same (Some x) (Some y) = same x y

abbrev pub IsOptionAdmitted : {Value Cfg : Type 0} → (Cfg → Value → Type 0) → Cfg → Option Value → Type 0
IsOptionAdmitted admits cfg None = Unit {0}
IsOptionAdmitted admits cfg (Some x) = admits cfg x

abbrev pub IsOptionFound : {Value Cfg : Type 0} → (MarkedText → ℕ → Cfg → Value → Type 0) → MarkedText → ℕ → Cfg → Option Value → Type 0
IsOptionFound is_found text skip cfg None = IsByteAt text skip 0
IsOptionFound is_found text skip cfg (Some x) = IsByteAt text skip 1 × is_found text (skip + 1) cfg x

abbrev pub IsOptionFault : {Cfg : Type 0} → (MarkedText → ℕ → Cfg → Fault → Type 0) → MarkedText → ℕ → Cfg → Fault → Type 0
IsOptionFault is_fault text skip cfg fault = IsBoolFault text skip fault ⊎ (IsByteAt text skip 1 × is_fault text (skip + 1) cfg fault)

abbrev pub IsPairFault : {Value Cfg : Type 0} (written : Value → List ℕ) (is_found : MarkedText → ℕ → Cfg → Value → Type 0)
    (is_fault : MarkedText → ℕ → Cfg → Fault → Type 0) (behind_fault : MarkedText → ℕ → Fault → Type 0) → MarkedText → ℕ → Cfg → Fault
    → Type 0
IsPairFault {Value} written is_found is_fault behind_fault text skip cfg fault =
    is_fault text skip cfg fault ⊎ ((x : Value) × is_found text skip cfg x × behind_fault text (skip + length (written x)) fault)
