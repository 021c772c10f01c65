use Rattle.std.proofs.Common.{◌≡◌, ◌+◌, ◌≤◌, length}
use Rattle.std.specs.List.{flat_map}
use Rattle.iobufs_codec.specs.Listed.{AreFound}
use Rattle.iobufs_codec.proofs.list.look_each.Given as goal

abbrev pub invariant-loop : goal.invariant-loop
invariant-loop g l = record {
  count : length l.values.items ≡ l.counter;
  found : AreFound g.T.EncodeSize.written g.T.Look.is_found (g.B.OwnedBuf.marked l.buf) l.skip l.cfg l.values.items;
  len : l.len ≡ length (flat_map g.T.EncodeSize.written l.values.items);
  within : l.skip + l.len ≤ length (g.B.Buf.text l.buf);
}
