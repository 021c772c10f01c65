-- A place of a builder may go to another thread, as the builder may.
use Rattle.std.proofs.Common.{refl}
use denote.Param.Send.{IsSend}
use Rattle.iobufs.specs.contracts.builder.Builder.{the_row as V}
use Rattle.iobufs.proofs.builder.Builder.TheSendSync.{the_send}
use Rattle.iobufs_c.specs.declared.builder.BuilderAt.{BuilderAt}
use Rattle.iobufs_c.specs.contracts.builder.BuilderAt.{struct, the_codes, the_row}
use Rattle.iobufs_c.proofs.Places.{sends}

pub send : IsSend the_row
send =
    sends V struct.name BuilderAt (λ d. d.at) (λ d. d.value) (λ p v. record { at = p; value = v }) (λ d. refl) (λ p v. refl)
    (λ p v. refl) the_codes tt the_send
