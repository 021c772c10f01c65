-- Calls that fail, and calls after them, by the definitions.
use Rattle.std.specs.Prelude.{◌≡◌, ◌⊎◌, ℕ, false, Option, Result, Ok, Err, List, [], ◌++◌}
use Rattle.std.proofs.Common.{ap, inl, inr, ◌∙◌}
use Rattle.std.specs.Io.KnownBytes.{Appends}
use Rattle.std.specs.declared.io.Error.{Error as IoError}
use Rattle.iobufs.proofs.CallerFacts.{sent_all, sent_on}
use Rattle.iobufs_core.specs.MarkedText.{MarkedText}
use Rattle.iobufs_core.specs.declared.codec.base.BufError.TheVariants.{Memory, TooLong}
use Rattle.iobufs_core.specs.declared.codec.base.RangeCfg.{RangeCfg}
use Rattle.iobufs_core.specs.declared.codec.base.Refused.{Refused}
use Rattle.iobufs_frames.specs.Frames.{IsFirstOf, IsFramed, Parts}
use Rattle.iobufs_frames.specs.Streams.{CanWait, IsIdle, PutsFrame, SendsRest, unsent_bytes, unsent_frames}
use Rattle.iobufs_frames.specs.Unsent.{ArePassed, frames_bytes}
use Rattle.iobufs_frames.specs.declared.End.{End}
use Rattle.iobufs_frames.specs.declared.error.FrameError.TheVariants.{Io}
use Rattle.iobufs_frames.specs.declared.lengths.Layout.{Layout}
use Rattle.iobufs_frames.specs.declared.writer.FrameWriter.{FrameWriter}

-- after an error of the reader, the frames are those that were there
frames_stay : {T : Type 0} (gives : Parts → T → Type 0) (needs : Parts → Type 0) (layout : Layout) (range : RangeCfg)
    (frames : List Parts) (end : End) (rest left : List ℕ) (error : IoError)
    → IsFirstOf gives needs layout range frames end rest (Err (Io error)) left → IsFramed layout range left frames end rest
frames_stay gives needs layout range frames end rest left error first = first.0

-- a send that fails leaves the frames of which bytes did not go; one that succeeds after it has sent all that waited, once and
-- in order
sent_again : {W : Type 0} (contents : W → Option (List ℕ)) (old between new : FrameWriter W) (error : IoError) (done : Unit {0})
    → SendsRest contents old (Err error) between → SendsRest contents between (Ok done) new
    → ArePassed (unsent_frames old) between.rest between.more × Appends (contents old.to) (contents new.to) (unsent_bytes old)
    × (unsent_bytes new ≡ []) × (new.is_flushed ≡ false) × (new.layout ≡ old.layout) × (new.range ≡ old.range)
sent_again contents old between new error done first second =
    let none : unsent_bytes new ≡ [] = λ i. second.ends.0 i ++ frames_bytes (second.ends.1 i) in
    let sent = sent_on _ _ _ _ _ _ first.sent second.sent in (
      first.passed,
      sent_all _ _ _ _ sent none,
      none,
      second.flushed first.ends.0,
      second.layout ∙ first.layout,
      second.range ∙ first.range,
    )

-- if nothing waits, a send writes nothing
nothing_sent : {W : Type 0} (contents : W → Option (List ℕ)) (old new : FrameWriter W) (result : Result (Unit {0}) IoError)
    → SendsRest contents old result new → IsIdle old → contents new.to ≡ contents old.to
nothing_sent contents old new result sends idle = ap (λ writer. contents writer.to) (sends.idle idle)

-- a body that can wait is handed back with `Memory`, and one that cannot with `TooLong`
cause_of_refusal : {W : Type 0} (before after : List ℕ) (old new : FrameWriter W) (body : MarkedText) (refused : Refused MarkedText)
    → PutsFrame before after old body (Err refused) new
    → (CanWait before after old body → refused.cause ≡ Memory) × ((CanWait before after old body → ⊥) → refused.cause ≡ TooLong)
cause_of_refusal before after old new body refused (value, same, inl (cannot, long)) = (λ can. absurd (cannot can), λ no. long)
cause_of_refusal before after old new body refused (value, same, inr (can, memory, busy)) = (λ yes. memory, λ cannot. absurd (cannot can))
