-- `gives_frames` meets the laws of the kit's `Decoder`.
use Rattle.std.specs.Prelude.{ℕ, ◌++◌, List, Ok, Err}
use Rattle.std.proofs.Common.{ap, subst, ◌∙◌, append_assoc}
use Rattle.tokio_util.specs.Codec.Next.{EndIsPartial, IsStable, PartialHasNoFrame}
use Rattle.iobufs_frames.proofs.FrameFacts.{first_stays, stands}
use Rattle.iobufs_core.specs.View.{View}
use Rattle.iobufs_tokio_util.specs.Decoding.{gives_frames}
use Rattle.iobufs_frames.specs.Frames.{LacksFrame, frame_written, has_bytes, is_body}
use Rattle.iobufs_frames.specs.declared.End.TheVariants.{Open}
use Rattle.iobufs_frames.specs.declared.error.FrameError.TheVariants.{Cut, Frame, Io}

-- more bytes change no frame and no error
pub stable : IsStable gives_frames
stable c bytes (Ok body) d left more ((frame, taken, told), shares, same) = (
  (
    frame,
    record {
      admitted = taken.admitted;
      whole = ap (λ w. w ++ more) taken.whole ∙ append_assoc (frame_written c.layout frame) left more;
    },
    told,
  ),
  shares,
  same,
)
stable c bytes (Err (Frame error)) d left more (first, same) =
    (first_stays View is_body has_bytes c.layout c.range bytes left more error first, same)
stable c bytes (Err Cut) d left more none = none
stable c bytes (Err (Io error)) d left more none = none

-- bytes that lack a frame have none
pub partial_has_no_frame : PartialHasNoFrame gives_frames
partial_has_no_frame c bytes body d left lacks ((frame, taken, told), shares, same) =
    stands c.layout c.range frame left Open taken.admitted
    (subst (λ (w : List ℕ). LacksFrame c.layout c.range w Open) taken.whole lacks)

-- the input ends only where a frame is lacking
pub end_is_partial : EndIsPartial gives_frames
end_is_partial c bytes result d left h = h.0
