-- A place of a view may go to another thread, as the view may.
use Rattle.std.proofs.Common.{refl}
use denote.Param.Send.{IsSend}
use Rattle.iobufs_core.specs.contracts.buf.view.IoBuf.{the_row as V}
use Rattle.iobufs_core.proofs.buf.view.IoBuf.TheSendSync.{the_send}
use Rattle.iobufs_c.specs.declared.view.ViewAt.{ViewAt}
use Rattle.iobufs_c.specs.contracts.view.ViewAt.{struct, the_codes, the_row}
use Rattle.iobufs_c.proofs.Places.{sends}

pub send : IsSend the_row
send =
    sends V struct.name ViewAt (λ d. d.at) (λ d. d.value) (λ p v. record { at = p; value = v }) (λ d. refl) (λ p v. refl)
    (λ p v. refl) the_codes tt the_send
