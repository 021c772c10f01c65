-- How the length before a body is written: as a varint, or as a number of one, two, three, four or eight bytes.
--     width_size                   how many bytes a number has
--     prefix_written, prefix_limit the encoding of a length, and the number below which lengths have one
--     IsLengthAt, HasNoLengthAt    bytes begin with this length; and with none
--     IsOpenAt                     more bytes could still make one
--     IsSeenAt                     the bytes begin with this length, and all its bytes are there
--     own_view                     bytes in a block of their own
--     bare                         a header that is its length alone
--     header_size, frame_size      how many bytes the header has whose length is this number, and the whole frame
--     admits                       a length counts what it has to, and its body is in the range
--     IsLengthIn, HasNoLengthIn,   so of the length in a header at the front
--     IsOpenIn
--     IsSeenIn                     this length is in the header at the front, and all its bytes are there
use Rattle.std.specs.Prelude.{◌≡◌, ℕ, ◌+◌, ◌-◌, ◌^◌, ◌<◌, ◌≤◌, Bool, false, nat_lt, if◌then◌else◌, List, length, take, drop}
use Rattle.std.specs.Int.{bytes_high_first, bytes_low_first}
use Rattle.iobufs_core.specs.Spelling.{spell, IsOpen}
use Rattle.iobufs_core.specs.Ranges.{in_range}
use Rattle.iobufs_core.specs.View.{View, native_mark}
use Rattle.iobufs_core.specs.declared.codec.base.RangeCfg.{RangeCfg}
use Rattle.iobufs_frames.specs.declared.lengths.Layout.{Layout}
use Rattle.iobufs_frames.specs.declared.lengths.Prefix.{Prefix}
use Rattle.iobufs_frames.specs.declared.lengths.Prefix.TheVariants.{Spelled, Fixed}
use Rattle.iobufs_frames.specs.declared.lengths.ByteOrder.TheVariants.{Big, Little}
use Rattle.iobufs_frames.specs.declared.lengths.Width.{Width}
use Rattle.iobufs_frames.specs.declared.lengths.Width.TheVariants.{U8, U16, U24, U32, U64}

-- how many bytes a number has
abbrev pub width_size : Width → ℕ
width_size U8 = 1
width_size U16 = 2
width_size U24 = 3
width_size U32 = 4
width_size U64 = 8

-- a length as it is written
abbrev pub prefix_written : Prefix → ℕ → List ℕ
prefix_written Spelled n = spell n
prefix_written (Fixed width Big) n = bytes_high_first (width_size width) n
prefix_written (Fixed width Little) n = bytes_low_first 0 (width_size width) n

-- below what number a length can be
abbrev pub prefix_limit : Prefix → ℕ
prefix_limit Spelled = 2 ^ 64
prefix_limit (Fixed width order) = 256 ^ width_size width

-- the bytes begin with this length
abbrev pub IsLengthAt : Prefix → List ℕ → ℕ → Type 0
IsLengthAt prefix bytes n = (n < prefix_limit prefix) × (take (length (prefix_written prefix n)) bytes ≡ prefix_written prefix n)

-- a length may have begun, and has not ended
abbrev pub IsOpenAt : Prefix → List ℕ → Type 0
IsOpenAt Spelled bytes = IsOpen bytes
IsOpenAt (Fixed width order) bytes = length bytes < width_size width

-- no length is at the front
abbrev pub HasNoLengthAt : Prefix → List ℕ → Type 0
HasNoLengthAt prefix bytes = (n : ℕ) → IsLengthAt prefix bytes n → ⊥

-- the bytes begin with this length, which has so many of them
abbrev pub IsSeenAt : Prefix → List ℕ → ℕ → ℕ → Type 0
IsSeenAt prefix bytes n len = IsLengthAt prefix bytes n × (len ≡ length (prefix_written prefix n)) × (len ≤ length bytes)

-- bytes in a block of their own, of exactly their size
abbrev pub own_view : List ℕ → View
own_view bytes = record { bytes = bytes; mark = native_mark (length bytes) }

-- a header that is its length alone
abbrev pub bare : Prefix → Layout
bare prefix = record { before = 0; prefix = prefix; after = 0; counts = 0 }

-- how many bytes a header has whose length is written as this number
abbrev pub header_size : Layout → ℕ → ℕ
header_size layout v = layout.before + length (prefix_written layout.prefix v) + layout.after

-- how many bytes its frame has
abbrev pub frame_size : Layout → ℕ → ℕ
frame_size layout v = header_size layout v + (v - layout.counts)

-- a length counts no less than it has to, and the rest is the number of a body's bytes, in the range
abbrev pub admits : Layout → RangeCfg → ℕ → Bool
admits layout range v = if nat_lt v layout.counts then false else in_range range (v - layout.counts)

-- this length is in the header at the front
abbrev pub IsLengthIn : Layout → List ℕ → ℕ → Type 0
IsLengthIn layout bytes v = IsLengthAt layout.prefix (drop layout.before bytes) v

-- none is
abbrev pub HasNoLengthIn : Layout → List ℕ → Type 0
HasNoLengthIn layout bytes = HasNoLengthAt layout.prefix (drop layout.before bytes)

-- more bytes could still make one
abbrev pub IsOpenIn : Layout → List ℕ → Type 0
IsOpenIn layout bytes = IsOpenAt layout.prefix (drop layout.before bytes)

-- this length is in the header at the front, written in so many bytes, which are all there
abbrev pub IsSeenIn : Layout → List ℕ → ℕ → ℕ → Type 0
IsSeenIn layout bytes v len = IsSeenAt layout.prefix (drop layout.before bytes) v len
