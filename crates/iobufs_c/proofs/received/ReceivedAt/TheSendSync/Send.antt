-- A handle of a receive block may go to another thread, as the block may.
use Rattle.std.proofs.Common.{refl}
use denote.Param.Send.{IsSend}
use Rattle.iobufs_frames.specs.contracts.block.Received.{the_row as V}
use Rattle.iobufs_frames.proofs.block.Received.TheSendSync.{the_send}
use Rattle.iobufs_c.specs.declared.received.ReceivedAt.{ReceivedAt}
use Rattle.iobufs_c.specs.contracts.received.ReceivedAt.{struct, the_codes, the_row}
use Rattle.iobufs_c.proofs.Places.{sends}

pub send : IsSend the_row
send =
    sends V struct.name ReceivedAt (λ d. d.at) (λ d. d.value) (λ p v. record { at = p; value = v }) (λ d. refl) (λ p v. refl)
    (λ p v. refl) the_codes tt the_send
