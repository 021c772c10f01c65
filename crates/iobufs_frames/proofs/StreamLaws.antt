-- The frames that a reader waits for.
use Rattle.std.specs.Prelude.{◌≡◌, Option, None, Some, IfSome, Result, List, ℕ, ◌++◌}
use Rattle.std.specs.Io.KnownBytes.{Consumes, IsAtEnd}
use Rattle.std.proofs.Common.{ap, sym, subst, ◌∙◌, append_assoc}
use Rattle.iobufs_core.specs.declared.codec.base.RangeCfg.{RangeCfg}
use Rattle.iobufs_frames.proofs.FrameLaws.{first_of_read}
use Rattle.iobufs_frames.specs.Frames.{IsFirstOf, IsFramed, Parts, ReadsBy, Takes}
use Rattle.iobufs_frames.specs.Streams.{IsFirstOfAll, IsNeeded, TakesNext}
use Rattle.iobufs_frames.specs.declared.End.{End}
use Rattle.iobufs_frames.specs.declared.error.FrameError.{FrameError}
use Rattle.iobufs_frames.specs.declared.lengths.Layout.{Layout}
use Rattle.iobufs_frames.specs.declared.reader.FrameReader.{FrameReader}

-- Bytes were read that are held, and no frame was taken: as in `TakesFrame`, before it has a result.
pub record Waits {R : Type 0} (remaining : R → Option (List ℕ)) (old now : FrameReader R) : Type 0 where
  pub read : List ℕ
  pub took : Consumes (remaining old.from) (remaining now.from) read
  pub grew : now.held.bytes ≡ old.held.bytes ++ read
  pub needed : IsNeeded old.held.layout old.range old.held.bytes read (now.from ≡ old.from)
  pub layout : now.held.layout ≡ old.held.layout
  pub range : now.range ≡ old.range

first_of_known : (T : Type 0) (gives : Parts → T → Type 0) (needs : Parts → Type 0) (layout : Layout) (range : RangeCfg)
    (had has : Option (List ℕ)) (held read left : List ℕ) (result : Result (Option T) FrameError)
    → Consumes had has read → ReadsBy (Takes gives needs layout range) (IsAtEnd has) (held ++ read) result left
    → IfSome had (λ text. IfSome has (λ more. (frames : List Parts) (end : End) (rest : List ℕ)
    → IsFramed layout range (held ++ text) frames end rest → IsFirstOf gives needs layout range frames end rest result (left ++ more)))
first_of_known T gives needs layout range None has held read left result took first = tt
first_of_known T gives needs layout range (Some text) None held read left result took first = absurd took
first_of_known T gives needs layout range (Some text) (Some more) held read left result took first = λ frames end rest framed.
    first_of_read T gives needs layout range (held ++ read) left more result first frames end rest
    (subst (λ (w : List ℕ). IsFramed layout range w frames end rest) (ap (λ w. held ++ w) took ∙ sym (append_assoc held read more)) framed)

-- a reader takes the first of all frames that it holds and may still read
pub first_of_all : {R T : Type 0} (gives : Parts → T → Type 0) (needs : Parts → Type 0) (also : T → Type 0)
    (remaining : R → Option (List ℕ)) (old new : FrameReader R) (result : Result (Option T) FrameError)
    → TakesNext gives needs also remaining old result new → IsFirstOfAll gives needs remaining old result new
first_of_all {R} {T} gives needs also remaining old new result is =
    first_of_known T gives needs old.held.layout old.range (remaining old.from) (remaining new.from) old.held.bytes is.read new.held.bytes
    result is.took is.first
