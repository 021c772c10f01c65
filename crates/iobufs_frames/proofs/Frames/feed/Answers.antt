use Rattle.iobufs_frames.proofs.FrameLaws.{fed}
use Rattle.iobufs_frames.proofs.Frames.feed.Goals as goal

pub returns-clause-bytes : goal.returns-clause-bytes
returns-clause-bytes c = fed c.args.self.now.rest c.append.new.self c.args.piece c.append.result c.append.ensures.added
