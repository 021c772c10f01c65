use Rattle.iobufs_owner.proofs.Base.{HasRoom, pack-is, zeros-of, log-below}
use Rattle.iobufs_owner.proofs.format.Format.pack.Goals as goal

pub returns-then-not-has_room-clause-sum : goal.returns-then-not-has_room-clause-sum
returns-then-not-has_room-clause-sum c = λ log is room.
    let z = zeros-of c.args.align log c.ranges.align.fits is in
    let h = c.has_room.ensures.1 (rw z room) in
    cc

pub returns-clause-sum : goal.returns-clause-sum
returns-clause-sum c = λ log is.
    let f = c.args.self.now in
    let z = zeros-of c.args.align log c.ranges.align.fits is in
    let room : HasRoom f.align_bits f.tail_bits f.size_bits c.args.size log c.args.tail = rw z at
    (c.has_room.ensures.0 c.if-not-has_room.false) in
    (room, rw (c.from.ensures, z) (pack-is f.align_bits f.tail_bits f.size_bits c.args.size log c.args.tail f.in_a_word room))

pub returns-clause-word : goal.returns-clause-word
returns-clause-word c =
    let f = c.args.self.now in
    let log = c.requires.0 in
    let z = zeros-of c.args.align log c.ranges.align.fits c.requires.1 in
    let room : HasRoom f.align_bits f.tail_bits f.size_bits c.args.size log c.args.tail = rw z at
    (c.has_room.ensures.0 c.if-not-has_room.false) in
    record {
      size = c.args.size;
      log = log;
      tail = c.args.tail;
      small = log-below c.args.align log c.ranges.align.fits c.requires.1;
      room = room;
      is = rw (c.from.ensures, z) (pack-is f.align_bits f.tail_bits f.size_bits c.args.size log c.args.tail f.in_a_word room);
    }
