-- How lengths, numbers and views are written and read.
--     bytes_written, view_written    a varint length and then the bytes, as a reader will see them
--     bytes_items, view_items        the encoding in items: the length inline, the bytes as a pushed view
--     flag                           the byte of a `bool`: 1 or 0
--     option_written,                the byte 1 and a value, or the byte 0; and in items
--     option_items
--     IsLengthRead, IsNoLength       what reading a length returns, and why none is read: the bytes end inside it, or
--                                    it isn't one
--     IsNumberRead, IsInFront        what reading a number of n bytes returns, and that it is at the front
--     HasView, HasStaticView         a length in the range, and as many bytes after it; static ones
--     IsViewRead, IsBytesRead,       what reading a view, or a copy of its bytes, returns; and why it fails
--     IsViewFault
--     IsTaken                        a value was made of the bytes after a length, and one copy took both from the
--                                    reader
--     view_left                      what is left once a view and its length are read
use Rattle.std.specs.Prelude.{◌≡◌, ◌⊎◌, ℕ, ◌+◌, ◌^◌, ◌<◌, ◌≤◌, Bool, true, false, if◌then◌else◌, Option, Some, None, Result, Ok, Err, List, [], ◌∷◌, ◌++◌, length, take, drop}
use Rattle.iobufs_core.specs.Ranges.{in_range}
use Rattle.iobufs_core.specs.Spelling.{spell, IsSpelledAt, HasNoLength, IsOpen}
use Rattle.iobufs_core.specs.View.{View, static_mark, view_of_bytes}
use Rattle.iobufs_core.specs.MarkedText.{MarkedText, taken_view, text_rest}
use Rattle.iobufs_core.specs.Items.{PutOrPush, put_item, push_item}
use Rattle.iobufs_core.specs.declared.codec.base.Error.{Error}
use Rattle.iobufs_core.specs.declared.codec.base.Error.TheVariants.{EndOfBuffer, InvalidVarint, InvalidLength, Memory}
use Rattle.iobufs_core.specs.declared.codec.base.RangeCfg.{RangeCfg}

-- bytes are written after their length; of a view the length is put, and the view pushed
abbrev pub bytes_written : List ℕ → List ℕ
bytes_written bytes = spell (length bytes) ++ bytes

abbrev pub view_written : View → List ℕ
view_written view = bytes_written view.bytes

abbrev pub view_items : View → List PutOrPush
view_items view = put_item (spell (length view.bytes)) ∷ push_item view ∷ []

abbrev pub bytes_items : List ℕ → List PutOrPush
bytes_items bytes = put_item (spell (length bytes)) ∷ push_item (view_of_bytes bytes) ∷ []

-- a `bool` is one byte
abbrev pub flag : Bool → ℕ
flag truth = if truth then 1 else 0

-- a byte says whether a value follows it
abbrev pub option_written : {Value : Type 0} → (Value → List ℕ) → Option Value → List ℕ
option_written written None = 0 ∷ []
option_written written (Some value) = 1 ∷ written value

abbrev pub option_items : {Value : Type 0} → (Value → List PutOrPush) → Option Value → List PutOrPush
option_items items None = put_item (0 ∷ []) ∷ []
option_items items (Some value) = put_item (1 ∷ []) ∷ items value

-- why no varint is at the front: the end of the buffer if one may go on after it, else it is invalid
abbrev pub IsNoLength : List ℕ → Error → Type 0
IsNoLength bytes EndOfBuffer = HasNoLength bytes × IsOpen bytes
IsNoLength bytes InvalidVarint = HasNoLength bytes × (IsOpen bytes → ⊥)
IsNoLength bytes _ = ⊥

-- The result of reading a length: the value of the varint at the front, if it is in the range
abbrev pub IsLengthRead : List ℕ → RangeCfg → Result ℕ Error → Type 0
IsLengthRead bytes range (Ok n) = IsSpelledAt bytes n × (in_range range n ≡ true)
IsLengthRead bytes range (Err (InvalidLength n)) = IsSpelledAt bytes n × (in_range range n ≡ false)
IsLengthRead bytes range (Err error) = IsNoLength bytes error

-- a number is at the front, encoded in `size` bytes
pub record IsInFront (written : ℕ → List ℕ) (size : ℕ) (bytes : List ℕ) (n : ℕ) : Type 0 where
  pub small : n < 256 ^ size
  pub long : size ≤ length bytes
  pub is : written n ≡ take size bytes

-- the result of reading a number of `size` bytes: the one at the front, or the end of the buffer if there are fewer
abbrev pub IsNumberRead : (ℕ → List ℕ) → ℕ → List ℕ → Result ℕ Error → Type 0
IsNumberRead written size bytes (Ok n) = IsInFront written size bytes n
IsNumberRead written size bytes (Err EndOfBuffer) = length bytes < size
IsNumberRead written size bytes (Err error) = ⊥

-- a length in the range is encoded at the front, and that many bytes follow it
abbrev pub HasView : MarkedText → RangeCfg → ℕ → Type 0
HasView text range n = IsLengthRead text.bytes range (Ok n) × (length (spell n) + n ≤ length text.bytes)

-- the bytes after such a length are static
pub record HasStaticView (text : MarkedText) (range : RangeCfg) : Type 0 where
  pub n : ℕ
  pub there : HasView text range n
  pub static : (taken_view text (length (spell n)) n).mark ≡ static_mark

-- the bytes after a length were read as this value, which is made of a view of them, and dropped with it
pub record IsTaken {Value Reader : Type 0} (makes : View → Value → Type 0) (copied : Reader → ℕ → Reader) (text : MarkedText)
    (range : RangeCfg)
    (old new : Reader) (value : Value) : Type 0 where
  pub n : ℕ
  pub there : HasView text range n
  pub made : makes (taken_view text (length (spell n)) n) value
  pub left : new ≡ copied old (length (spell n) + n)

-- why no view is read: the fault of its length, fewer bytes after it than it says, or a failed allocation
abbrev pub IsViewFault : MarkedText → RangeCfg → Error → Type 0
IsViewFault text range Memory = (n : ℕ) × HasView text range n × (0 < n)
IsViewFault text range EndOfBuffer =
    IsLengthRead text.bytes range (Err EndOfBuffer)
    ⊎ ((n : ℕ) × IsLengthRead text.bytes range (Ok n) × (length text.bytes < length (spell n) + n))
IsViewFault text range error = IsLengthRead text.bytes range (Err error)

-- the result of reading a view: the bytes after its length as one view, or a fault; then of reading these bytes alone
abbrev pub IsViewRead : MarkedText → RangeCfg → Result View Error → Type 0
IsViewRead text range (Ok view) = (n : ℕ) × HasView text range n × (view ≡ taken_view text (length (spell n)) n)
IsViewRead text range (Err error) = IsViewFault text range error

abbrev pub IsBytesRead : MarkedText → RangeCfg → Result (List ℕ) Error → Type 0
IsBytesRead text range (Ok bytes) = (n : ℕ) × HasView text range n × (bytes ≡ take n (drop (length (spell n)) text.bytes))
IsBytesRead text range (Err error) = IsViewFault text range error

-- the rest after a view is read, as a copy of its length and its bytes leaves it
abbrev pub view_left : MarkedText → View → MarkedText
view_left text view = text_rest text (length (view_written view))
