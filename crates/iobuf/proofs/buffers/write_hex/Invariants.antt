use Rattle.std.proofs.Common.{◌≡◌}
use Rattle.iobuf.proofs.buffers.write_hex.Given as goal

abbrev pub invariant-loop-few : goal.invariant-loop-few
invariant-loop-few g l = l.few-iterator.size ≡ 32
