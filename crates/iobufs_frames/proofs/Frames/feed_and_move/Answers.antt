use Rattle.iobufs_frames.specs.Frames.{bodies}
use Rattle.iobufs_frames.proofs.FrameLaws.{fed_bad}
use Rattle.iobufs_frames.proofs.Frames.feed_and_move.Goals as goal

pub returns-in-Bad-clause-framed : goal.returns-in-Bad-clause-framed
returns-in-Bad-clause-framed c = λ text is.
    fed_bad c.args.self.now.layout c.args.range.now text c.args.piece.bytes c.args.self.now.rest.bytes c.feed.new.self.rest.bytes
    (bodies c.args.found.now.items)
    c.args.stop c.in-Bad.field-0 is c.in-Bad.is c.in_ok-feed.ensures.bytes
