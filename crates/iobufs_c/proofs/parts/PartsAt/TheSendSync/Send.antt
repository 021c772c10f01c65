-- A place of parts may go to another thread, as parts may.
use Rattle.std.proofs.Common.{refl}
use denote.Param.Send.{IsSend}
use Rattle.iobufs.specs.contracts.bufs_mut.IoBufsMut.{the_row as V}
use Rattle.iobufs.proofs.bufs_mut.IoBufsMut.TheSendSync.{the_send}
use Rattle.iobufs_c.specs.declared.parts.PartsAt.{PartsAt}
use Rattle.iobufs_c.specs.contracts.parts.PartsAt.{struct, the_codes, the_row}
use Rattle.iobufs_c.proofs.Places.{sends}

pub send : IsSend the_row
send =
    sends V struct.name PartsAt (λ d. d.at) (λ d. d.value) (λ p v. record { at = p; value = v }) (λ d. refl) (λ p v. refl)
    (λ p v. refl) the_codes tt the_send
