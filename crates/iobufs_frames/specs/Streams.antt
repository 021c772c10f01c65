-- Frames on std's readers and writers, over the whole reader or writer before and after a call.
--     BeginsReading   nothing was read
--     IsNeeded        nothing was asked of the reader, or before the last read no whole frame was held
--     TakesNext       bytes were read, none while a whole frame was held, and the frame at the front was taken
--     TakesFrame,     so as its body; and with its header
--     TakesWholeFrame
--     IsFirstOfAll    so of a reader whose bytes are known: the frame is the first of all that it holds and may still read
--     TakesHeld       the frame at the front of the held bytes was taken, without a read
--     Fills           one read: bytes came, or it is at its end
--     StaysRead,      so of one that a frame needs, which the end of the input cuts
--     ReadsMore
--     unsent_frames, unsent_bytes     the frames of a writer of which bytes are not sent, and these bytes
--     IsIdle          all that was put is sent
--     BeginsWriting   a writer to which nothing was put
--     CanWait         a frame can be sent, and fewer than 2^64 bytes wait with it
--     FollowsOthers   a frame follows those that are not sent
--     PutsFrame       so if some are not sent; or the body is handed back
--     SendsRest       bytes of the frames went, in order, and the others are left
use Rattle.std.specs.Prelude.{◌≡◌, ◌≢◌, ◌⊎◌, ℕ, ◌+◌, ◌^◌, ◌<◌, Bool, true, false, Option, Result, Ok, Err, IfOk, IfSome, List, [], ◌∷◌, ◌++◌, length}
use Rattle.std.specs.IoError.{error_kind}
use Rattle.std.specs.declared.io.Error.{Error as IoError}
use Rattle.std.specs.declared.io.ErrorKind.TheVariants.{Interrupted}
use Rattle.std.specs.Io.KnownBytes.{Consumes, IsAtEnd}
use Rattle.iobufs.specs.Sending.{IsSent}
use Rattle.iobufs_core.specs.MarkedText.{MarkedText}
use Rattle.iobufs_core.specs.View.{View}
use Rattle.iobufs_core.specs.declared.codec.base.BufError.TheVariants.{Memory, TooLong}
use Rattle.iobufs_core.specs.declared.codec.base.Error.{Error}
use Rattle.iobufs_core.specs.declared.codec.base.RangeCfg.{RangeCfg}
use Rattle.iobufs_core.specs.declared.codec.base.Refused.{Refused}
use Rattle.iobufs_frames.specs.Frames.{CanBeSent, IsFirstOf, IsFramed, LacksFrame, Parts, ReadsBy, Takes, has_bytes, is_any, is_body, is_whole}
use Rattle.iobufs_frames.specs.Receiving.{KeepsReceived, is_bytes_view}
use Rattle.iobufs_frames.specs.Unsent.{ArePassed, CanBeCopied, UnsentBytes, frames_bytes, unsent_frame, unsent_nothing}
use Rattle.iobufs_frames.specs.declared.End.{End}
use Rattle.iobufs_frames.specs.declared.End.TheVariants.{Open}
use Rattle.iobufs_frames.specs.declared.error.FrameError.{FrameError}
use Rattle.iobufs_frames.specs.declared.error.FrameError.TheVariants.{Cut, Frame, Io}
use Rattle.iobufs_frames.specs.declared.lengths.Layout.{Layout}
use Rattle.iobufs_frames.specs.declared.reader.FrameReader.{FrameReader}
use Rattle.iobufs_frames.specs.declared.writer.FrameWriter.{FrameWriter}

-- a reader of which nothing was asked, with space for a read
pub record BeginsReading {R : Type 0} (from : R) (layout : Layout) (range : RangeCfg) (reader : FrameReader R) : Type 0 where
  pub source : reader.from ≡ from
  pub written : reader.held.layout ≡ layout
  pub admits : reader.range ≡ range
  pub empty : reader.held.bytes ≡ []
  pub space : 0 < reader.held.space

-- before the last of these bytes were read, no whole frame was held
pub record WasNeeded (layout : Layout) (range : RangeCfg) (held read : List ℕ) : Type 0 where
  pub before : List ℕ
  pub last : List ℕ
  pub whole : read ≡ before ++ last
  pub none : LacksFrame layout range (held ++ before) Open

-- nothing was asked of the reader, or before the last read no whole frame was held
abbrev pub IsNeeded : Layout → RangeCfg → List ℕ → List ℕ → Type 0 → Type 0
IsNeeded layout range held read idle = ((read ≡ []) × idle) ⊎ WasNeeded layout range held read

-- Bytes were read, none while a whole frame was held, and the frame at the front of all was taken. It is taken as
-- something that `gives` relates to it, and of which `also` holds.
pub record TakesNext {R T : Type 0} (gives : Parts → T → Type 0) (needs : Parts → Type 0) (also : T → Type 0)
    (remaining : R → Option (List ℕ)) (old : FrameReader R) (result : Result (Option T) FrameError) (new : FrameReader R) : Type 0 where
  pub read : List ℕ
  pub took : Consumes (remaining old.from) (remaining new.from) read
  pub needed : IsNeeded old.held.layout old.range old.held.bytes read (new.from ≡ old.from)
  pub first : ReadsBy (Takes gives needs old.held.layout old.range) (IsAtEnd (remaining new.from))
      (old.held.bytes ++ read) result new.held.bytes
  pub also_holds : IfOk result (λ found. IfSome found also)
  pub layout : new.held.layout ≡ old.held.layout
  pub range : new.range ≡ old.range

-- `next`: as its body, a view of a `Bytes`
abbrev pub TakesFrame : {R : Type 0} → (R → Option (List ℕ)) → FrameReader R → Result (Option View) FrameError → FrameReader R → Type 0
TakesFrame remaining old result new = TakesNext is_body has_bytes is_bytes_view remaining old result new

-- `next_whole`: with its header
abbrev pub TakesWholeFrame : {R : Type 0} → (R → Option (List ℕ)) → FrameReader R → Result (Option (ℕ × View)) FrameError
    → FrameReader R → Type 0
TakesWholeFrame remaining old result new =
    TakesNext (is_whole old.held.layout (λ view. view.bytes)) is_any (λ whole. is_bytes_view whole.1) remaining old result new

-- so of a reader whose bytes are known: the first of all frames that it holds and may still read, and the others are left
abbrev pub IsFirstOfAll : {R T : Type 0} → (Parts → T → Type 0) → (Parts → Type 0) → (R → Option (List ℕ)) → FrameReader R
    → Result (Option T) FrameError → FrameReader R → Type 0
IsFirstOfAll gives needs remaining old result new =
    IfSome (remaining old.from) (λ had. IfSome (remaining new.from) (λ has. (frames : List Parts) (end : End) (rest : List ℕ)
    → IsFramed old.held.layout old.range (old.held.bytes ++ had) frames end rest
    → IsFirstOf gives needs old.held.layout old.range frames end rest result (new.held.bytes ++ has)))

-- the frame at the front of the held bytes was taken so, without a read
pub record TakesHeld {R T : Type 0} (gives : Parts → T → Type 0) (needs : Parts → Type 0) (also : T → Type 0) (old : FrameReader R)
    (result : Result (Option T) Error) (new : FrameReader R) : Type 0 where
  pub first : Takes gives needs old.held.layout old.range old.held.bytes result new.held.bytes
  pub held : KeepsReceived also old.held result new.held
  pub from : new.from ≡ old.from
  pub range : new.range ≡ old.range

-- one read, which came to these bytes, or none at the end of the input, or failed and was no interruption
abbrev pub Fills : {R : Type 0} → (R → Option (List ℕ)) → FrameReader R → Result Bool IoError → FrameReader R → Type 0
Fills remaining old (Ok none) new =
    ((read : List ℕ) × Consumes (remaining old.from) (remaining new.from) read × (new.held.bytes ≡ old.held.bytes ++ read)
    × (none ≡ true → (read ≡ []) × IsAtEnd (remaining new.from)) × (none ≡ false → 0 < length read))
    × (new.held.layout ≡ old.held.layout) × (new.range ≡ old.range)
Fills remaining old (Err error) new =
    Consumes (remaining old.from) (remaining new.from) [] × (new.held ≡ old.held) × (new.range ≡ old.range)
    × (error_kind error ≢ Interrupted)

-- no byte was read, and all that is held stays
abbrev pub StaysRead : {R : Type 0} → (R → Option (List ℕ)) → FrameReader R → FrameReader R → Type 0
StaysRead remaining old new = Consumes (remaining old.from) (remaining new.from) [] × (new.held.bytes ≡ old.held.bytes)
    × (new.held.layout ≡ old.held.layout) × (new.range ≡ old.range)

-- A read that a frame needs: bytes came, or none at the end of the input, if none are held. A frame that was begun there is cut.
-- Another error is the reader's, or that of the space, and no interruption.
abbrev pub ReadsMore : {R : Type 0} → (R → Option (List ℕ)) → FrameReader R → Result Bool FrameError → FrameReader R → Type 0
ReadsMore remaining old (Ok came) new =
    ((read : List ℕ) × Consumes (remaining old.from) (remaining new.from) read × (new.held.bytes ≡ old.held.bytes ++ read)
    × (came ≡ false → (old.held.bytes ≡ []) × (read ≡ []) × IsAtEnd (remaining new.from)) × (came ≡ true → 0 < length read))
    × (new.held.layout ≡ old.held.layout) × (new.range ≡ old.range)
ReadsMore remaining old (Err Cut) new = StaysRead remaining old new × (0 < length old.held.bytes) × IsAtEnd (remaining new.from)
ReadsMore remaining old (Err (Frame error)) new = ⊥
ReadsMore remaining old (Err (Io error)) new = StaysRead remaining old new × (error_kind error ≢ Interrupted)

-- the frames of which bytes are not sent, in order; and all these bytes
abbrev pub unsent_frames : {W : Type 0} → FrameWriter W → List UnsentBytes
unsent_frames writer = writer.rest ∷ writer.more

abbrev pub unsent_bytes : {W : Type 0} → FrameWriter W → List ℕ
unsent_bytes writer = frames_bytes (unsent_frames writer)

-- all that was put is sent
abbrev pub IsIdle : {W : Type 0} → FrameWriter W → Type 0
IsIdle writer = (writer.rest.bytes ≡ []) × (writer.more ≡ [])

-- a writer to which nothing was put
abbrev pub BeginsWriting : {W : Type 0} → W → Layout → RangeCfg → FrameWriter W → Type 0
BeginsWriting to layout range writer = (writer.to ≡ to) × (writer.layout ≡ layout) × (writer.range ≡ range)
    × (writer.rest ≡ unsent_nothing) × (writer.more ≡ []) × (writer.is_flushed ≡ true)

-- a frame of this body, with these bytes around its length, can be sent, and fewer than 2^64 bytes wait with it
abbrev pub CanWait : {W : Type 0} → List ℕ → List ℕ → FrameWriter W → MarkedText → Type 0
CanWait before after writer body = CanBeSent writer.layout writer.range before after (length body.bytes)
    × (length (unsent_bytes writer) + length (unsent_frame writer.layout before after body).bytes < 2 ^ 64)

-- A frame follows those that are not sent, in its chunks. Or all of these are in `rest`, its body is short, and a copy of its
-- bytes follows them there.
abbrev pub FollowsOthers : {W : Type 0} → FrameWriter W → UnsentBytes → FrameWriter W → Type 0
FollowsOthers old frame new = (new ≡ record old { more = old.more ++ frame ∷ [] })
    ⊎ (CanBeCopied frame.body × (old.more ≡ []) × (new ≡ record old { rest = record old.rest { bytes = old.rest.bytes ++ frame.bytes } }))

-- `put_with`: a frame with these bytes around its length, of which nothing is sent, follows those that are not; or the body is
-- handed back, and all stays
abbrev pub PutsFrame : {W : Type 0} → List ℕ → List ℕ → FrameWriter W → MarkedText → Result (Unit {0}) (Refused MarkedText)
    → FrameWriter W → Type 0
PutsFrame before after old body (Ok done) new = CanWait before after old body
    × (IsIdle old → new ≡ record old { rest = unsent_frame old.layout before after body })
    × ((IsIdle old → ⊥) → FollowsOthers old (unsent_frame old.layout before after body) new)
    × (unsent_bytes new ≡ unsent_bytes old ++ (unsent_frame old.layout before after body).bytes)
PutsFrame before after old body (Err refused) new = (refused.value ≡ body) × (new ≡ old)
    × (((CanWait before after old body → ⊥) × (refused.cause ≡ TooLong))
    ⊎ (CanWait before after old body × (refused.cause ≡ Memory) × (IsIdle old → ⊥)))

-- how a send ends: all went; or some bytes are left after an error that was no interruption
abbrev pub EndsSend : {W : Type 0} → FrameWriter W → Result (Unit {0}) IoError → Type 0
EndsSend writer (Ok done) = IsIdle writer
EndsSend writer (Err error) = (0 < length (unsent_bytes writer)) × (error_kind error ≢ Interrupted)

-- `send`: bytes of the frames went, in order; what is left of them stays to be sent, in the chunks that were put
pub record SendsRest {W : Type 0} (contents : W → Option (List ℕ)) (old : FrameWriter W) (result : Result (Unit {0}) IoError)
    (new : FrameWriter W) : Type 0 where
  pub sent : IsSent (contents old.to) (contents new.to) (unsent_bytes old) (unsent_bytes new)
  pub passed : ArePassed (unsent_frames old) new.rest new.more
  pub ends : EndsSend new result
  pub idle : IsIdle old → new ≡ old
  pub flushed : 0 < length (unsent_bytes old) → new.is_flushed ≡ false
  pub layout : new.layout ≡ old.layout
  pub range : new.range ≡ old.range
