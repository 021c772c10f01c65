use Rattle.iobufs_owner.proofs.Base.{zeros-of, fits-iff}
use Rattle.iobufs_owner.proofs.format.Format.fits.Goals as goal

pub returns-clause-value : goal.returns-clause-value
returns-clause-value c = λ log is.
    let f = c.args.self.now in
    let z = zeros-of c.args.align log c.ranges.align.fits is in
    fits-iff f.align_bits f.tail_bits f.size_bits c.args.size log c.args.tail c.has_room.result (rw z at c.has_room.ensures)

pub returns-clause-room : goal.returns-clause-room
returns-clause-room c = λ log is. let z = zeros-of c.args.align log c.ranges.align.fits is in rw z at c.has_room.ensures
