-- `iobufs_frames_init` writes empty frames into the room.
use Rattle.iobufs_frames.specs.contracts.Frames.{the_row as V}
use Rattle.iobufs_c.specs.FrameRows.{default_frames}
use Rattle.iobufs_frames.proofs.Frames.TheLaws.{the_row_laws}
use Rattle.iobufs_c.specs.contracts.frames.empty.Key.{name as of}
use Rattle.iobufs_c.specs.contracts.frames.iobufs_frames_init.Key.{name}
use Rattle.iobufs_c.proofs.Rooms.{inits}
use Rattle.iobufs_c.proofs.frames.empty.Met.{met}
use Rattle.iobufs_c.proofs.frames.iobufs_frames_init.Statement.{statement}
use Rattle.iobufs_c.proofs.frames.iobufs_frames_init.Code as code

pub iobufs_frames_init_spec : {M : Type 1} → statement M
iobufs_frames_init_spec 𝓤 𝓛 𝓜 𝓡 wired =
    inits V the_row_laws default_frames 𝓛 𝓜 𝓡 of (met 𝓤 𝓛 𝓜 𝓡 (code.calls-iobufs_c::frames::empty 𝓡.env wired)) name
    (code.unfolded 𝓤 𝓛.H 𝓜 𝓡 wired)
