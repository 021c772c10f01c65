-- `iobufs_received_init` writes the empty receive block into the room.
use Rattle.iobufs_frames.specs.contracts.block.Received.{the_row as V}
use Rattle.iobufs_frames.specs.Prefixes.{bare}
use Rattle.iobufs_frames.specs.Receiving.{none_received}
use Rattle.iobufs_frames.specs.declared.lengths.Prefix.TheVariants.{Spelled}
use Rattle.iobufs_frames.proofs.block.Received.TheLaws.{the_row_laws}
use Rattle.iobufs_c.specs.contracts.received.empty.Key.{name as of}
use Rattle.iobufs_c.specs.contracts.received.iobufs_received_init.Key.{name}
use Rattle.iobufs_c.proofs.Rooms.{inits}
use Rattle.iobufs_c.proofs.received.empty.Met.{met}
use Rattle.iobufs_c.proofs.received.iobufs_received_init.Statement.{statement}
use Rattle.iobufs_c.proofs.received.iobufs_received_init.Code as code

pub iobufs_received_init_spec : {M : Type 1} → statement M
iobufs_received_init_spec 𝓤 𝓛 𝓜 𝓡 wired =
    inits V the_row_laws (none_received (bare Spelled)) 𝓛 𝓜 𝓡 of (met 𝓤 𝓛 𝓜 𝓡 (code.calls-iobufs_c::received::empty 𝓡.env wired)) name
    (code.unfolded 𝓤 𝓛.H 𝓜 𝓡 wired)
