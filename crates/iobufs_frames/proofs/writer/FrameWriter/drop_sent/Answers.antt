use Rattle.iobufs_frames.specs.Streams.{unsent_frames}
use Rattle.iobufs_frames.proofs.UnsentLaws.{passed_none, passed_on}
use Rattle.iobufs_frames.proofs.writer.FrameWriter.drop_sent.Goals as goal

pub returns-then-is_empty-clause-passed : goal.returns-then-is_empty-clause-passed
returns-then-is_empty-clause-passed g c =
    let old = c.args.self.now in
    passed_on (unsent_frames old) old.rest c.advance.new.self old.more c.args.n (passed_none old.rest old.more)
    c.advance.ensures
