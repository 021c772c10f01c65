-- `iobufmut_init` writes the empty buffer into the room.
use Rattle.iobufs_core.specs.contracts.buf.part.IoBufMut.{the_row as V}
use Rattle.iobufs_core.specs.Part.{empty_part}
use Rattle.iobufs_core.proofs.buf.part.IoBufMut.TheLaws.{the_row_laws}
use Rattle.iobufs_core.specs.contracts.buf.part.IoBufMut.new.Key.{name as of}
use Rattle.iobufs_c.specs.contracts.part.iobufmut_init.Key.{name}
use Rattle.iobufs_c.proofs.Rooms.{inits}
use Rattle.iobufs_core.proofs.buf.part.IoBufMut.new.Met.{met}
use Rattle.iobufs_c.proofs.part.iobufmut_init.Statement.{statement}
use Rattle.iobufs_c.proofs.part.iobufmut_init.Code as code

pub iobufmut_init_spec : {M : Type 1} → statement M
iobufmut_init_spec 𝓤 𝓛 𝓜 𝓡 wired =
    inits V the_row_laws (empty_part 0) 𝓛 𝓜 𝓡 of (met 𝓤 𝓛 𝓜 𝓡 (code.calls-iobufs_core::buf::part::IoBufMut::new 𝓡.env wired)) name
    (code.unfolded 𝓤 𝓛.H 𝓜 𝓡 wired)
