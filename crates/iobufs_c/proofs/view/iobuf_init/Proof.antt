-- `iobuf_init` writes the empty view into the room.
use Rattle.iobufs_core.specs.contracts.buf.view.IoBuf.{the_row as V}
use Rattle.iobufs_core.specs.View.{default_view}
use Rattle.iobufs_core.proofs.buf.view.IoBuf.TheLaws.{the_row_laws}
use Rattle.iobufs_c.specs.contracts.view.empty.Key.{name as of}
use Rattle.iobufs_c.specs.contracts.view.iobuf_init.Key.{name}
use Rattle.iobufs_c.proofs.Rooms.{inits}
use Rattle.iobufs_c.proofs.view.empty.Met.{met}
use Rattle.iobufs_c.proofs.view.iobuf_init.Statement.{statement}
use Rattle.iobufs_c.proofs.view.iobuf_init.Code as code

pub iobuf_init_spec : {M : Type 1} → statement M
iobuf_init_spec 𝓤 𝓛 𝓜 𝓡 wired =
    inits V the_row_laws default_view 𝓛 𝓜 𝓡 of (met 𝓤 𝓛 𝓜 𝓡 (code.calls-iobufs_c::view::empty 𝓡.env wired)) name
    (code.unfolded 𝓤 𝓛.H 𝓜 𝓡 wired)
