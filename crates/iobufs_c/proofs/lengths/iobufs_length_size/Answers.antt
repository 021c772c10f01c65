use Rattle.std.proofs.Common.{arith}
use Rattle.iobufs_core.specs.Spelled.{length-spell}
use Rattle.iobufs_c.proofs.lengths.iobufs_length_size.Goals as goal

pub encode_inline_size-requires : goal.encode_inline_size-requires
encode_inline_size-requires c = omega (arith, length-spell c.args.n)
