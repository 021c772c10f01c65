use Rattle.std.proofs.Common.{◌≡◌, take}
use Rattle.std.specs.List.{flat_map}
use Rattle.iobufs_core.specs.Items.{items_inline}
use Rattle.iobufs_codec.proofs.list.each_inline_size.Given as goal

abbrev pub invariant-loop-value : goal.invariant-loop-value
invariant-loop-value g l = l.size ≡ items_inline (flat_map g.T.EncodeSize.items (take l.value-index l.values))
