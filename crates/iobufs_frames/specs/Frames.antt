-- The frames of some bytes. A frame is a header and a body; the layout says where in the header the length stands, how it
-- is written, and what it counts.
--     Parts                        a frame: the bytes before its length, those between length and body, and its body
--     bare_frame                   a frame whose header is its length alone
--     header_written,              a header; followed by a body; and several in order
--     frame_written, all_written
--     CanFollow, CanAllFollow      a frame fits its layout, its length can be written, and is in the range; and each
--     HasFrameSize, CanBeSent      a header can be written before so many bytes, and both have a size; and their number is
--                                  in the range
--     LacksLength, PrependsLength  a body gets its length, or why it doesn't
--     LacksFrame                   no whole frame is at the front, and why: more bytes may complete it, or none can
--     HasFrame                     a whole frame is at the front, of which something holds
--     HasStaticBody                the bytes after the length at the front, as many as it says, are static
--     IsFramed, HasFrames          bytes are these frames and a rest that no whole frame begins; and they have such
--                                  frames
--     bodies, joined_bytes,        the bytes of bodies that are views: each by itself, and all in one; the bodies of frames
--     frame_bodies
--     HasBodies                    bytes are frames with these bodies, and a rest that no whole frame begins
--     IsAtFront                    a frame is at the front, and the bytes after it are left
--     Takes                        what taking the first frame returns, and the bytes that it leaves
--     is_body, has_bytes,          so of its body; and of the whole frame
--     TakesFirst, is_whole,
--     is_any, TakesWhole
--     IsCutFrom, IsSplitFrom       a body that was taken is a view of its chunk, or a copy of several; and a whole frame has its chunks
--     MatchTaken                   what else stays if a frame is taken, and if none is
--     ReadsBy                      so of a reader: of all bytes that it had and read
--     FirstTaken, BeginsWith,      the result by the frames of the bytes: the first went, or its allocation failed; what
--     FirstGiven, IsFirst,         takes the first frame of some bytes takes the first of theirs
--     FirstIsTaken
--     IsFirstOf, FirstIsRead       so of a reader: by the frames of all bytes that it had and may still read
--     AreMoved                     frames moved from the front of some bytes to the end of a list
--     AreSameFrames, HaveOneReading     two readings of some bytes are equal; and so are any two
--     BareIsPrefixed               a bare frame is a length and a body
--     BeginningsAreOpen,           a proper prefix of a frame may go on; what can't be a frame stays so whatever follows
--     BadStaysBad
use Rattle.std.specs.Prelude.{◌≡◌, ◌≢◌, ◌⊎◌, ℕ, ◌+◌, ◌-◌, ◌^◌, ◌<◌, ◌≤◌, true, false, Option, None, Some, Result, Ok, Err, List, [], ◌∷◌, ◌++◌, map, flat_map, length}
use Rattle.std.specs.IoError.{error_kind}
use Rattle.std.specs.declared.io.ErrorKind.TheVariants.{Interrupted}
use Rattle.iobufs_core.specs.Ranges.{in_range}
use Rattle.iobufs_core.specs.MarkedText.{MarkedText, taken_view, text_len, text_prepend, text_rest, text_split_front}
use Rattle.iobufs_core.specs.View.{View, static_mark}
use Rattle.iobufs_core.specs.declared.codec.base.BufError.{BufError}
use Rattle.iobufs_core.specs.declared.codec.base.BufError.TheVariants as too
use Rattle.iobufs_core.specs.declared.codec.base.Error.{Error}
use Rattle.iobufs_core.specs.declared.codec.base.Error.TheVariants.{InvalidVarint, InvalidLength, Memory}
use Rattle.iobufs_core.specs.declared.codec.base.RangeCfg.{RangeCfg}
use Rattle.iobufs_core.specs.declared.codec.base.Refused.{Refused}
use Rattle.iobufs_frames.specs.Prefixes.{HasNoLengthIn, IsLengthIn, IsOpenIn, admits, bare, frame_size, header_size, own_view, prefix_limit, prefix_written}
use Rattle.iobufs_frames.specs.declared.End.{End}
use Rattle.iobufs_frames.specs.declared.End.TheVariants.{Open, Bad}
use Rattle.iobufs_frames.specs.declared.error.FrameError.{FrameError}
use Rattle.iobufs_frames.specs.declared.error.FrameError.TheVariants.{Cut, Frame, Io}
use Rattle.iobufs_frames.specs.declared.lengths.Layout.{Layout}
use Rattle.iobufs_frames.specs.declared.lengths.Prefix.{Prefix}
use Rattle.iobufs_frames.specs.declared.lengths.Prefix.TheVariants.{Spelled}

-- a frame: the bytes before its length, those between its length and its body, and its body
pub record Parts : Type 0 where
  pub before : List ℕ
  pub after : List ℕ
  pub body : List ℕ

-- the header of a frame: its length is the number of the body's bytes and of those of the header that it counts
abbrev pub header_written : Layout → Parts → List ℕ
header_written layout frame = frame.before ++ (prefix_written layout.prefix (length frame.body + layout.counts) ++ frame.after)

-- a frame whose header is its length alone
abbrev pub bare_frame : List ℕ → Parts
bare_frame body = record { before = []; after = []; body = body }

-- a header and a body
abbrev pub frame_written : Layout → Parts → List ℕ
frame_written layout frame = header_written layout frame ++ frame.body

-- frames in order
abbrev pub all_written : Layout → List Parts → List ℕ
all_written layout [] = []
all_written layout (frame ∷ frames) = frame_written layout frame ++ all_written layout frames

-- a frame fits its layout: its length can be written so, and the number of its body's bytes is in the range
pub record CanFollow (layout : Layout) (range : RangeCfg) (frame : Parts) : Type 0 where
  pub before : length frame.before ≡ layout.before
  pub after : length frame.after ≡ layout.after
  pub small : length frame.body + layout.counts < prefix_limit layout.prefix
  pub inside : in_range range (length frame.body) ≡ true

-- These bytes around a length fit the layout, the length of so many bytes can be written, and all have a size. A header that is
-- written has at most 22 bytes around its length.
pub record HasFrameSize (layout : Layout) (before after : List ℕ) (n : ℕ) : Type 0 where
  pub before_fits : length before ≡ layout.before
  pub after_fits : length after ≡ layout.after
  pub few : layout.before + layout.after ≤ 22
  pub small : n + layout.counts < prefix_limit layout.prefix
  pub sized : header_size layout (n + layout.counts) + n < 2 ^ 64

-- a body of so many bytes can follow its header, is in the range, and both have a size
pub record CanBeSent (layout : Layout) (range : RangeCfg) (before after : List ℕ) (n : ℕ) : Type 0 where
  pub inside : in_range range n ≡ true
  pub size : HasFrameSize layout before after n

-- why a body of so many bytes doesn't get its header
abbrev pub LacksLength : Layout → List ℕ → List ℕ → ℕ → BufError → Type 0
LacksLength layout before after n too.TooLong = HasFrameSize layout before after n → ⊥
LacksLength layout before after n too.Memory = HasFrameSize layout before after n
LacksLength layout before after n error = ⊥

-- A body gets its header before its chunks, in a block of its own. If both have no size, or an allocation fails, it is
-- handed back.
abbrev pub PrependsLength : Layout → List ℕ → List ℕ → MarkedText → Result MarkedText (Refused MarkedText) → Type 0
PrependsLength layout before after body (Ok text) =
    let frame : Parts = record { before = before; after = after; body = body.bytes } in
    HasFrameSize layout before after (length body.bytes) × (text ≡ text_prepend body (own_view (header_written layout frame)))
    × (text.bytes ≡ frame_written layout frame)
PrependsLength layout before after body (Err refused) = (refused.value ≡ body)
    × LacksLength layout before after (length body.bytes) refused.cause

-- each fits the layout, and is in the range
abbrev pub CanAllFollow : Layout → RangeCfg → List Parts → Type 0
CanAllFollow layout range [] = Unit {0}
CanAllFollow layout range (frame ∷ frames) = CanFollow layout range frame × CanAllFollow layout range frames

-- No whole frame is at the front. It is open where its length may go on, or where there are fewer bytes than the frame has;
-- it is bad where no length stands there, or one that counts less than it has to, or is that of a body outside the range.
abbrev pub LacksFrame : Layout → RangeCfg → List ℕ → End → Type 0
LacksFrame layout range bytes Open =
    (HasNoLengthIn layout bytes × IsOpenIn layout bytes)
    ⊎ ((v : ℕ) × (IsLengthIn layout bytes v × (admits layout range v ≡ true)) × (length bytes < frame_size layout v))
LacksFrame layout range bytes (Bad InvalidVarint) = HasNoLengthIn layout bytes × (IsOpenIn layout bytes → ⊥)
LacksFrame layout range bytes (Bad (InvalidLength v)) = IsLengthIn layout bytes v × (admits layout range v ≡ false)
LacksFrame layout range bytes (Bad error) = ⊥

-- a whole frame is at the front, of which this holds
pub record HasFrame (needs : Parts → Type 0) (layout : Layout) (range : RangeCfg) (bytes : List ℕ) : Type 0 where
  pub frame : Parts
  pub more : List ℕ
  pub admitted : CanFollow layout range frame
  pub whole : bytes ≡ frame_written layout frame ++ more
  pub needed : needs frame

-- the bytes after the header at the front, as many as its length says, are static
abbrev pub HasStaticBody : Layout → MarkedText → Type 0
HasStaticBody layout text =
    (v : ℕ) × IsLengthIn layout text.bytes v × ((taken_view text (header_size layout v) (v - layout.counts)).mark ≡ static_mark)

-- the frames of a text, why no further one follows them, and what is after them
pub record IsFramed (layout : Layout) (range : RangeCfg) (text : List ℕ) (frames : List Parts) (end : End) (rest : List ℕ) : Type 0 where
  pub whole : text ≡ all_written layout frames ++ rest
  pub admitted : CanAllFollow layout range frames
  pub ends : LacksFrame layout range rest end

-- the bytes of views, view by view
abbrev pub bodies : List View → List (List ℕ)
bodies views = map (λ view. view.bytes) views

-- all bytes of these views, in order
abbrev pub joined_bytes : List View → List ℕ
joined_bytes views = flat_map (λ view. view.bytes) views

-- frames have these bodies
abbrev pub frame_bodies : List Parts → List (List ℕ)
frame_bodies frames = map (λ frame. frame.body) frames

-- bytes are frames with these bodies, and a rest that no whole frame begins
pub record HasBodies (layout : Layout) (range : RangeCfg) (text : List ℕ) (bodies : List (List ℕ)) (end : End)
    (rest : List ℕ) : Type 0 where
  pub frames : List Parts
  pub told : frame_bodies frames ≡ bodies
  pub is : IsFramed layout range text frames end rest

-- a body was taken from a text: the bytes after its header as one view, a copy if they span chunks; what is after it is left
pub record IsCutFrom (layout : Layout) (old new : MarkedText) (body : View) : Type 0 where
  pub fits : frame_size layout (length body.bytes + layout.counts) ≤ text_len old
  pub is : body ≡ taken_view old (header_size layout (length body.bytes + layout.counts)) (length body.bytes)
  pub left : new ≡ text_rest old (frame_size layout (length body.bytes + layout.counts))

-- a frame is at the front, and what is after it is left
pub record IsAtFront (layout : Layout) (range : RangeCfg) (bytes left : List ℕ) (frame : Parts) : Type 0 where
  pub admitted : CanFollow layout range frame
  pub whole : bytes ≡ frame_written layout frame ++ left

-- The result of taking the first frame of some bytes, and the bytes that it leaves: all, unless it takes one. It is taken as
-- something that `gives` relates to it; `Memory` requires a frame of which `needs` holds.
abbrev pub Takes : {T : Type 0} → (Parts → T → Type 0) → (Parts → Type 0) → Layout → RangeCfg → List ℕ → Result (Option T) Error
    → List ℕ → Type 0
Takes gives needs layout range bytes (Ok (Some taken)) left = (frame : Parts) × IsAtFront layout range bytes left frame × gives frame taken
Takes gives needs layout range bytes (Ok None) left = LacksFrame layout range bytes Open × (left ≡ bytes)
Takes gives needs layout range bytes (Err Memory) left = HasFrame needs layout range bytes × (left ≡ bytes)
Takes gives needs layout range bytes (Err InvalidVarint) left = LacksFrame layout range bytes (Bad InvalidVarint) × (left ≡ bytes)
    × (layout.prefix ≡ Spelled)
Takes gives needs layout range bytes (Err error) left = LacksFrame layout range bytes (Bad error) × (left ≡ bytes)

-- a frame is taken as its body; that needs memory only if the body has bytes
abbrev pub is_body : Parts → View → Type 0
is_body frame body = frame.body ≡ body.bytes

abbrev pub has_bytes : Parts → Type 0
has_bytes frame = 0 < length frame.body

abbrev pub TakesFirst : Layout → RangeCfg → List ℕ → Result (Option View) Error → List ℕ → Type 0
TakesFirst layout range bytes result left = Takes is_body has_bytes layout range bytes result left

-- so with its header, of so many bytes; any may need memory
abbrev pub is_whole : {T : Type 0} → Layout → (T → List ℕ) → Parts → ℕ × T → Type 0
is_whole layout bytes frame (header, whole) = (bytes whole ≡ frame_written layout frame) × (header ≡ length (header_written layout frame))

abbrev pub is_any : Parts → Type 0
is_any frame = Unit {0}

abbrev pub TakesWhole : {T : Type 0} → (T → List ℕ) → Layout → RangeCfg → List ℕ → Result (Option (ℕ × T)) Error → List ℕ → Type 0
TakesWhole text layout range bytes result left = Takes (is_whole layout text) is_any layout range bytes result left

-- one thing of what is taken, and another if nothing is
abbrev pub MatchTaken : {T : Type 0} → Result (Option T) Error → (T → Type 0) → Type 0 → Type 0
MatchTaken (Ok (Some it)) taken same = taken it
MatchTaken (Ok None) taken same = same
MatchTaken (Err error) taken same = same

-- a whole frame was taken from a text, without a copy: its chunks are the first of the text, and what is after them is left
abbrev pub IsSplitFrom : MarkedText → MarkedText → MarkedText → Type 0
IsSplitFrom old new whole = (whole ≡ text_split_front old (length whole.bytes)) × (new ≡ text_rest old (length whole.bytes))

-- The result of a reader that takes so, of all bytes that it had and read, and the bytes that it leaves. There is none only at
-- the end of the input, where `ended` holds; a frame that was begun there is cut.
abbrev pub ReadsBy : {T : Type 0} → (List ℕ → Result (Option T) Error → List ℕ → Type 0) → Type 0 → List ℕ
    → Result (Option T) FrameError → List ℕ → Type 0
ReadsBy takes ended bytes (Ok (Some taken)) left = takes bytes (Ok (Some taken)) left
ReadsBy takes ended bytes (Ok None) left = (bytes ≡ []) × (left ≡ []) × ended
ReadsBy takes ended bytes (Err Cut) left = takes bytes (Ok None) left × (0 < length bytes) × ended
ReadsBy takes ended bytes (Err (Frame error)) left = takes bytes (Err error) left
ReadsBy takes ended bytes (Err (Io error)) left = takes bytes (Ok None) left × (error_kind error ≢ Interrupted)

-- the first frame of a text is taken, and what is left are the others
pub record FirstTaken (layout : Layout) (range : RangeCfg) (frames : List Parts) (end : End) (rest : List ℕ) (frame : Parts)
    (new : List ℕ) : Type 0 where
  pub others : List Parts
  pub first : frames ≡ frame ∷ others
  pub behind : IsFramed layout range new others end rest

-- this holds of the first frame
pub record BeginsWith (needs : Parts → Type 0) (frames : List Parts) : Type 0 where
  pub frame : Parts
  pub others : List Parts
  pub first : frames ≡ frame ∷ others
  pub needed : needs frame

-- so of one that is taken as something
abbrev pub FirstGiven : {T : Type 0} → (Parts → T → Type 0) → Layout → RangeCfg → List Parts → End → List ℕ → T → List ℕ → Type 0
FirstGiven gives layout range frames end rest taken new =
    (frame : Parts) × FirstTaken layout range frames end rest frame new × gives frame taken

-- the first frame of the bytes is taken; if there is none, the end determines the result
abbrev pub IsFirst : {T : Type 0} → (Parts → T → Type 0) → (Parts → Type 0) → Layout → RangeCfg → List Parts → End → List ℕ
    → Result (Option T) Error → List ℕ → Type 0
IsFirst gives needs layout range frames end rest (Ok (Some taken)) new = FirstGiven gives layout range frames end rest taken new
IsFirst gives needs layout range frames end rest (Ok None) new = (frames ≡ []) × (end ≡ Open)
IsFirst gives needs layout range frames end rest (Err Memory) new = BeginsWith needs frames
IsFirst gives needs layout range frames end rest (Err error) new = (frames ≡ []) × (end ≡ Bad error)

-- what takes the first frame of some bytes takes the first of their frames
abbrev pub FirstIsTaken : (T : Type 0) → (Parts → T → Type 0) → (Parts → Type 0) → Layout → Type 0
FirstIsTaken T gives needs layout = (range : RangeCfg) (bytes left : List ℕ) (result : Result (Option T) Error)
    → Takes gives needs layout range bytes result left
    → (frames : List Parts) (end : End) (rest : List ℕ) → IsFramed layout range bytes frames end rest
    → IsFirst gives needs layout range frames end rest result left

-- So of a reader: the first of all frames is taken, and the others are left; if there is none, the end determines the
-- result. Any other error leaves all of them.
abbrev pub IsFirstOf : {T : Type 0} → (Parts → T → Type 0) → (Parts → Type 0) → Layout → RangeCfg → List Parts → End → List ℕ
    → Result (Option T) FrameError → List ℕ → Type 0
IsFirstOf gives needs layout range frames end rest (Ok (Some taken)) left = FirstGiven gives layout range frames end rest taken left
IsFirstOf gives needs layout range frames end rest (Ok None) left = (frames ≡ []) × (rest ≡ []) × (left ≡ [])
IsFirstOf gives needs layout range frames end rest (Err Cut) left = (frames ≡ []) × (end ≡ Open) × (0 < length rest) × (left ≡ rest)
IsFirstOf gives needs layout range frames end rest (Err (Frame error)) left =
    IsFirst gives needs layout range frames end rest (Err error) left × IsFramed layout range left frames end rest
IsFirstOf gives needs layout range frames end rest (Err (Io error)) left =
    IsFramed layout range left frames end rest × (error_kind error ≢ Interrupted)

-- whatever bytes follow, and none after the end, what is read is the first of the frames of all of them
abbrev pub FirstIsRead : (T : Type 0) → (Parts → T → Type 0) → (Parts → Type 0) → Layout → Type 0
FirstIsRead T gives needs layout = (range : RangeCfg) (bytes left more : List ℕ) (result : Result (Option T) FrameError)
    → ReadsBy (Takes gives needs layout range) (more ≡ []) bytes result left
    → (frames : List Parts) (end : End) (rest : List ℕ) → IsFramed layout range (bytes ++ more) frames end rest
    → IsFirstOf gives needs layout range frames end rest result (left ++ more)

-- frames went over from the front of a text after others; of both, these are the bodies
abbrev pub AreMoved : Layout → RangeCfg → List (List ℕ) → List ℕ → List (List ℕ) → List ℕ → Type 0
AreMoved layout range had text have rest = (frames : List Parts) → frame_bodies frames ≡ had
    → (more : List Parts) × (frame_bodies more ≡ have) × (all_written layout frames ++ text ≡ all_written layout more ++ rest)
    × (CanAllFollow layout range frames → CanAllFollow layout range more)

-- two readings of a text are the same
pub record AreSameFrames (frames others : List Parts) (end stop : End) (rest left : List ℕ) : Type 0 where
  pub same_frames : frames ≡ others
  pub same_end : end ≡ stop
  pub same_rest : rest ≡ left

-- a text has at most one list of frames, one end and one rest
abbrev pub HaveOneReading : Layout → Type 0
HaveOneReading layout =
    (range : RangeCfg) (text : List ℕ) (frames others : List Parts) (end stop : End) (rest left : List ℕ)
    → IsFramed layout range text frames end rest → IsFramed layout range text others stop left
    → AreSameFrames frames others end stop rest left

-- bytes have a list of frames, an end and a rest
pub record HasFrames (layout : Layout) (range : RangeCfg) (text : List ℕ) : Type 0 where
  pub frames : List Parts
  pub end : End
  pub rest : List ℕ
  pub is : IsFramed layout range text frames end rest

-- a proper prefix of a frame is open
abbrev pub BeginningsAreOpen : Layout → Type 0
BeginningsAreOpen layout = (range : RangeCfg) (frame : Parts) (front back : List ℕ) → CanFollow layout range frame
    → frame_written layout frame ≡ front ++ back
    → 0 < length back → LacksFrame layout range front Open

-- bad bytes stay bad, whatever follows them
abbrev pub BadStaysBad : Layout → Type 0
BadStaysBad layout = (range : RangeCfg) (bytes more : List ℕ) (error : Error) → LacksFrame layout range bytes (Bad error)
    → LacksFrame layout range (bytes ++ more) (Bad error)

-- a frame whose header is its length alone is the number of its body's bytes, and its body
abbrev pub BareIsPrefixed : Prefix → Type 0
BareIsPrefixed prefix = (range : RangeCfg) (frame : Parts) → CanFollow (bare prefix) range frame
    → frame_written (bare prefix) frame ≡ prefix_written prefix (length frame.body) ++ frame.body
