-- The state of a handle's frames, and how frames are taken from them and from a receive block.
--     default_frames      nothing was fed, and lengths are varints
--     prefix_from_c,      how lengths are written, and how headers are laid out, as C says it
--     layout_from_c
--     HasHeader,          so many bytes can follow a header with these bytes around its length; and that header
--     header_for
--     length_told         the invalid length that is written
--     IsTold              the status of taking a frame, and what is written
--     TakesOf, ReceivesBy the first frame is taken from frames, and from a receive block, and nothing else changes
--     TakesFrameOf,       so as its body; and with its header
--     TakesWholeOf,
--     TakesReceived,
--     TakesWholeReceived
use Rattle.std.specs.Prelude.{◌≡◌, ℕ, ◌==◌, if◌then◌else◌, Option, Some, None, Result, Ok, Err, List, take, drop, replicate}
use Rattle.std.specs.Option.{option_map}
use Rattle.iobufs_core.specs.MarkedText.{MarkedText, default_text}
use Rattle.iobufs_core.specs.View.{View}
use Rattle.iobufs_core.specs.declared.codec.base.Error.{Error}
use Rattle.iobufs_core.specs.declared.codec.base.Error.TheVariants as error
use Rattle.iobufs_core.specs.declared.codec.base.RangeCfg.{RangeCfg}
use Rattle.iobufs_frames.specs.Frames.{HasFrameSize, IsCutFrom, IsSplitFrom, MatchTaken, Parts, Takes, has_bytes, header_written, is_any, is_body, is_whole}
use Rattle.iobufs_frames.specs.Prefixes.{bare}
use Rattle.iobufs_frames.specs.Receiving.{KeepsReceived, ReceivedBytes, is_bytes_view}
use Rattle.iobufs_frames.specs.declared.Frames.{Frames}
use Rattle.iobufs_frames.specs.declared.lengths.Layout.{Layout}
use Rattle.iobufs_frames.specs.declared.lengths.Prefix.{Prefix}
use Rattle.iobufs_frames.specs.declared.lengths.Prefix.TheVariants.{Spelled, Fixed}
use Rattle.iobufs_frames.specs.declared.lengths.Width.TheVariants.{U8, U16, U24, U32, U64}
use Rattle.iobufs_frames.specs.declared.lengths.ByteOrder.TheVariants.{Big, Little}
use Rattle.iobufs_c.specs.Codes.{code_of, of_error}
use Rattle.iobufs_c.specs.declared.layouts.LayoutInC.{LayoutInC}
use Rattle.iobufs_c.specs.declared.status.Status.TheVariants.{EndOfBuffer}

-- nothing was fed, and lengths are varints
abbrev pub default_frames : Frames
default_frames = record { layout = bare Spelled; rest = default_text }

-- the kinds of prefixes, in the header's order
abbrev pub prefix_from_c : ℕ → Option Prefix
prefix_from_c kind =
    if kind == 0 then Some Spelled
    else if kind == 1 then Some (Fixed U16 Big)
    else if kind == 2 then Some (Fixed U32 Big)
    else if kind == 3 then Some (Fixed U64 Big)
    else if kind == 4 then Some (Fixed U16 Little)
    else if kind == 5 then Some (Fixed U32 Little)
    else if kind == 6 then Some (Fixed U64 Little)
    else if kind == 7 then Some (Fixed U8 Big)
    else if kind == 8 then Some (Fixed U24 Big)
    else if kind == 9 then Some (Fixed U24 Little)
    else None

-- a header whose length is of such a kind
abbrev pub layout_from_c : LayoutInC → Option Layout
layout_from_c said = option_map
    (λ prefix. record { before = said.before; prefix = prefix; after = said.after; counts = said.counts }) (prefix_from_c said.prefix)

-- the first of these bytes come before a length, as many as the layout has there, and the others after it
abbrev pub HasHeader : Layout → List ℕ → ℕ → Type 0
HasHeader layout around n = HasFrameSize layout (take layout.before around) (drop layout.before around) n

-- the header of a body of n bytes, whichever they are
abbrev pub header_for : Layout → List ℕ → ℕ → List ℕ
header_for layout around n =
    header_written layout (record { before = take layout.before around; after = drop layout.before around; body = replicate n 0 })

-- the invalid length that is written, if it is that
abbrev pub length_told : Error → ℕ → ℕ
length_told (error.InvalidLength n) wrong = n
length_told error wrong = wrong

-- the status of taking a frame, what it is written over, and the length that can't be one
abbrev pub IsTold : {T : Type 0} → Result (Option T) Error → ℕ → T → T → ℕ → ℕ → Type 0
IsTold (Ok (Some taken)) code out now wrong length = (code ≡ 0) × (now ≡ taken) × (length ≡ wrong)
IsTold (Ok None) code out now wrong length = (code ≡ code_of EndOfBuffer) × (now ≡ out) × (length ≡ wrong)
IsTold (Err error) code out now wrong length = (code ≡ code_of (of_error error)) × (now ≡ out) × (length ≡ length_told error wrong)

-- the first frame is taken from frames, as something that `gives` relates to it; `cut` says how it was part of their chunks
pub record TakesOf {T : Type 0} (gives : Parts → T → Type 0) (needs : Parts → Type 0) (cut : MarkedText → MarkedText → T → Type 0)
    (range : RangeCfg) (old new : Frames) (code : ℕ) (out now : T) (wrong length : ℕ) : Type 0 where
  pub found : Result (Option T) Error
  pub told : IsTold found code out now wrong length
  pub next : Takes gives needs old.layout range old.rest.bytes found new.rest.bytes
  pub rest : MatchTaken found (λ taken. (new.layout ≡ old.layout) × cut old.rest new.rest taken) (new ≡ old)

-- as its body, the view after its header, of its piece
abbrev pub TakesFrameOf : RangeCfg → Frames → Frames → ℕ → View → View → ℕ → ℕ → Type 0
TakesFrameOf range old new code out now wrong length =
    TakesOf is_body has_bytes (IsCutFrom old.layout) range old new code out now wrong length

-- with its header, of so many bytes, in its chunks
abbrev pub TakesWholeOf : RangeCfg → Frames → Frames → ℕ → ℕ × MarkedText → ℕ × MarkedText → ℕ → ℕ → Type 0
TakesWholeOf range old new code out now wrong length =
    TakesOf (is_whole old.layout (λ text. text.bytes)) is_any (λ had has whole. IsSplitFrom had has whole.1) range old new
    code out now wrong length

-- the first frame is taken so from a receive block, as a view of a `Bytes`
pub record ReceivesBy {T : Type 0} (gives : Parts → T → Type 0) (needs : Parts → Type 0) (view : T → View)
    (range : RangeCfg) (old new : ReceivedBytes) (code : ℕ) (out now : T) (wrong length : ℕ) : Type 0 where
  pub found : Result (Option T) Error
  pub told : IsTold found code out now wrong length
  pub next : Takes gives needs old.layout range old.bytes found new.bytes
  pub rest : KeepsReceived (λ taken. is_bytes_view (view taken)) old found new

abbrev pub TakesReceived : RangeCfg → ReceivedBytes → ReceivedBytes → ℕ → View → View → ℕ → ℕ → Type 0
TakesReceived range old new code out now wrong length =
    ReceivesBy is_body has_bytes (λ body. body) range old new code out now wrong length

abbrev pub TakesWholeReceived : RangeCfg → ReceivedBytes → ReceivedBytes → ℕ → ℕ × View → ℕ × View → ℕ → ℕ → Type 0
TakesWholeReceived range old new code out now wrong length =
    ReceivesBy (is_whole old.layout (λ view. view.bytes)) is_any (λ whole. whole.1) range old new code out now wrong length
