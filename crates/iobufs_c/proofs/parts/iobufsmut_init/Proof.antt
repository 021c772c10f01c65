-- `iobufsmut_init` writes one empty buffer into the room.
use Rattle.iobufs.specs.contracts.bufs_mut.IoBufsMut.{the_row as V}
use Rattle.std.specs.Prelude.{[], ◌∷◌}
use Rattle.iobufs_core.specs.Part.{empty_part}
use Rattle.iobufs.proofs.bufs_mut.IoBufsMut.TheLaws.{the_row_laws}
use Rattle.iobufs_c.specs.contracts.parts.empty.Key.{name as of}
use Rattle.iobufs_c.specs.contracts.parts.iobufsmut_init.Key.{name}
use Rattle.iobufs_c.proofs.Rooms.{inits}
use Rattle.iobufs_c.proofs.parts.empty.Met.{met}
use Rattle.iobufs_c.proofs.parts.iobufsmut_init.Statement.{statement}
use Rattle.iobufs_c.proofs.parts.iobufsmut_init.Code as code

pub iobufsmut_init_spec : {M : Type 1} → statement M
iobufsmut_init_spec 𝓤 𝓛 𝓜 𝓡 wired =
    inits V the_row_laws (empty_part 0 ∷ []) 𝓛 𝓜 𝓡 of (met 𝓤 𝓛 𝓜 𝓡 (code.calls-iobufs_c::parts::empty 𝓡.env wired)) name
    (code.unfolded 𝓤 𝓛.H 𝓜 𝓡 wired)
