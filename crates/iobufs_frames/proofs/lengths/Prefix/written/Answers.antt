use Rattle.std.proofs.Common.{◌∙◌}
use Rattle.iobufs_frames.specs.Prefixes.{prefix_written}
use Rattle.iobufs_frames.proofs.PrefixFacts.{prefix_long}
use Rattle.iobufs_frames.proofs.PrefixLaws.{copied}
use Rattle.iobufs_frames.proofs.lengths.Prefix.written.Goals as goal

pub returns-clause-view : goal.returns-clause-view
returns-clause-view c =
    copied (prefix_written c.args.self c.args.n) c.as_slice.result.now c.copy_from_slice.result (c.as_slice.ensures ∙ c.head.ensures)
    (prefix_long c.args.self c.args.n c.requires) c.copy_from_slice.ensures.ok
