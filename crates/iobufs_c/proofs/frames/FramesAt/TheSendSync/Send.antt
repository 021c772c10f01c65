-- A place of frames may go to another thread, as frames may.
use Rattle.std.proofs.Common.{refl}
use denote.Param.Send.{IsSend}
use Rattle.iobufs_frames.specs.contracts.Frames.{the_row as V}
use Rattle.iobufs_frames.proofs.Frames.TheSendSync.{the_send}
use Rattle.iobufs_c.specs.declared.frames.FramesAt.{FramesAt}
use Rattle.iobufs_c.specs.contracts.frames.FramesAt.{struct, the_codes, the_row}
use Rattle.iobufs_c.proofs.Places.{sends}

pub send : IsSend the_row
send =
    sends V struct.name FramesAt (λ d. d.at) (λ d. d.value) (λ p v. record { at = p; value = v }) (λ d. refl) (λ p v. refl)
    (λ p v. refl) the_codes tt the_send
