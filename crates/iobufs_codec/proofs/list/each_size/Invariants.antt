use Rattle.std.proofs.Common.{◌≡◌, ◌<◌, ◌^◌, length, take}
use Rattle.std.specs.List.{flat_map}
use Rattle.iobufs_codec.proofs.list.each_size.Given as goal

abbrev pub invariant-loop-value : goal.invariant-loop-value
invariant-loop-value g l = record {
  fits : l.size < 2 ^ 64;
  size : l.size ≡ length (flat_map g.T.EncodeSize.written (take l.value-index l.values));
}
