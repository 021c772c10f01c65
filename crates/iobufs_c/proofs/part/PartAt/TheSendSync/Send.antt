-- A place of a buffer may go to another thread, as the buffer may.
use Rattle.std.proofs.Common.{refl}
use denote.Param.Send.{IsSend}
use Rattle.iobufs_core.specs.contracts.buf.part.IoBufMut.{the_row as V}
use Rattle.iobufs_core.proofs.buf.part.IoBufMut.TheSendSync.{the_send}
use Rattle.iobufs_c.specs.declared.part.PartAt.{PartAt}
use Rattle.iobufs_c.specs.contracts.part.PartAt.{struct, the_codes, the_row}
use Rattle.iobufs_c.proofs.Places.{sends}

pub send : IsSend the_row
send =
    sends V struct.name PartAt (λ d. d.at) (λ d. d.value) (λ p v. record { at = p; value = v }) (λ d. refl) (λ p v. refl)
    (λ p v. refl) the_codes tt the_send
