use Rattle.std.proofs.Common.{take}
use Rattle.std.specs.List.{flat_map}
use Rattle.iobufs_codec.proofs.list.write_each.Given as goal

abbrev pub invariant-loop-value : goal.invariant-loop-value
invariant-loop-value g l = g.B.BufMut.filled l.initial.buf (flat_map g.T.EncodeSize.written (take l.value-index l.values)) l.buf
