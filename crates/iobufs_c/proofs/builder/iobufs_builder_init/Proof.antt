-- `iobufs_builder_init` writes the empty builder into the room.
use Rattle.iobufs.specs.contracts.builder.Builder.{the_row as V}
use Rattle.iobufs.specs.Building.{empty_building}
use Rattle.iobufs.proofs.builder.Builder.TheLaws.{the_row_laws}
use Rattle.iobufs.specs.contracts.builder.Builder.empty.Key.{name as of}
use Rattle.iobufs_c.specs.contracts.builder.iobufs_builder_init.Key.{name}
use Rattle.iobufs_c.proofs.Rooms.{inits}
use Rattle.iobufs.proofs.builder.Builder.empty.Met.{met}
use Rattle.iobufs_c.proofs.builder.iobufs_builder_init.Statement.{statement}
use Rattle.iobufs_c.proofs.builder.iobufs_builder_init.Code as code

pub iobufs_builder_init_spec : {M : Type 1} → statement M
iobufs_builder_init_spec 𝓤 𝓛 𝓜 𝓡 wired =
    inits V the_row_laws (empty_building 0) 𝓛 𝓜 𝓡 of (met 𝓤 𝓛 𝓜 𝓡 (code.calls-iobufs::builder::Builder::empty 𝓡.env wired)) name
    (code.unfolded 𝓤 𝓛.H 𝓜 𝓡 wired)
