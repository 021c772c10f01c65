-- `iobufs_init` writes the empty text into the room.
use Rattle.iobufs.specs.contracts.bufs.IoBufs.{the_row as V}
use Rattle.iobufs_core.specs.MarkedText.{default_text}
use Rattle.iobufs.proofs.bufs.IoBufs.TheLaws.{the_row_laws}
use Rattle.iobufs_c.specs.contracts.text.empty.Key.{name as of}
use Rattle.iobufs_c.specs.contracts.text.iobufs_init.Key.{name}
use Rattle.iobufs_c.proofs.Rooms.{inits}
use Rattle.iobufs_c.proofs.text.empty.Met.{met}
use Rattle.iobufs_c.proofs.text.iobufs_init.Statement.{statement}
use Rattle.iobufs_c.proofs.text.iobufs_init.Code as code

pub iobufs_init_spec : {M : Type 1} → statement M
iobufs_init_spec 𝓤 𝓛 𝓜 𝓡 wired =
    inits V the_row_laws default_text 𝓛 𝓜 𝓡 of (met 𝓤 𝓛 𝓜 𝓡 (code.calls-iobufs_c::text::empty 𝓡.env wired)) name
    (code.unfolded 𝓤 𝓛.H 𝓜 𝓡 wired)
