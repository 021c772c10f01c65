use Rattle.std.proofs.Common.{rules}
use Rattle.iobufs_core.specs.NumberLaws.{be_bytes_16}
use Rattle.iobufs_codec.proofs.numbers.u128_of.Goals as goal

pub returns : goal.returns
returns c = be_bytes_16 c.args.bytes _ (search rules) (search rules) c.from_be_bytes.ensures
