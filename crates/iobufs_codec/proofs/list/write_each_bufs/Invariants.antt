use Rattle.std.proofs.Common.{take}
use Rattle.std.specs.List.{flat_map}
use Rattle.iobufs_codec.proofs.list.write_each_bufs.Given as goal

abbrev pub invariant-loop-value : goal.invariant-loop-value
invariant-loop-value g l = g.B.BufsMut.done l.initial.buf (flat_map g.T.EncodeSize.items (take l.value-index l.values)) l.buf
