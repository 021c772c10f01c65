-- A codec of frames: the items of the kit's `FramedRead`, and the bytes that its `FramedWrite` writes.
--     gives_frames     a frame of a length in the range, in its block, and what is after it; why there is none; and the end,
--                      which a frame that was begun cuts
--     writes_frame     the frame of a body
--     RefusesBody      why a body isn't written
use Rattle.std.specs.Prelude.{◌≡◌, ℕ, List, [], Some, Ok, Err, length}
use Rattle.tokio_util.specs.Codec.Next.{Gives, at_end, decoded, partial}
use Rattle.iobufs_core.specs.MarkedText.{MarkedText}
use Rattle.iobufs_core.specs.View.{View, view_of_bytes}
use Rattle.iobufs_core.specs.declared.codec.base.Error.TheVariants as error
use Rattle.iobufs_frames.specs.Frames.{CanBeSent, LacksFrame, ReadsBy, TakesFirst, bare_frame, frame_written}
use Rattle.iobufs_frames.specs.declared.End.TheVariants.{Open}
use Rattle.iobufs_tokio_util.specs.declared.FrameCodec.{FrameCodec}
use Rattle.iobufs_frames.specs.declared.error.FrameError.{FrameError}
use Rattle.iobufs_frames.specs.declared.error.FrameError.TheVariants.{Frame}

-- The codec stays as it is, and an error leaves the bytes.
abbrev pub gives_frames : Gives FrameCodec View FrameError
gives_frames c bytes (decoded (Ok body) d left) =
    TakesFirst c.layout c.range bytes (Ok (Some body)) left × (body ≡ view_of_bytes body.bytes) × (d ≡ c)
gives_frames c bytes (decoded (Err (Frame error)) d left) = TakesFirst c.layout c.range bytes (Err error) left × (d ≡ c)
gives_frames c bytes (decoded (Err error) d left) = ⊥
gives_frames c bytes partial = LacksFrame c.layout c.range bytes Open
gives_frames c bytes (at_end result d left) =
    LacksFrame c.layout c.range bytes Open × ReadsBy (TakesFirst c.layout c.range) (Unit {0}) bytes result left × (d ≡ c)

-- the frame of a body that can be sent
abbrev pub writes_frame : FrameCodec → MarkedText → List ℕ → FrameCodec → Type 0
writes_frame c body frame d = CanBeSent c.layout c.range [] [] (length body.bytes)
    × (frame ≡ frame_written c.layout (bare_frame body.bytes)) × (d ≡ c)

-- a body is refused if it can't be sent, or an allocation for its frame fails
abbrev pub RefusesBody : FrameCodec → MarkedText → ℕ → FrameError → Type 0
RefusesBody c body spare (Frame error.TooLong) = CanBeSent c.layout c.range [] [] (length body.bytes) → ⊥
RefusesBody c body spare (Frame error.Memory) = CanBeSent c.layout c.range [] [] (length body.bytes)
RefusesBody c body spare error = ⊥
