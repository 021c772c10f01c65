use Rattle.std.proofs.Common.{◌+◌, ◌≡◌, ◌≤◌, ◌++◌, length, take}
use Rattle.iobufs_core.specs.Spelling.{spell}
use Rattle.iobufs_core.proofs.codec.length.spelling_of.Given as goal

-- some of the spelling is written, and the rest is that of the number left, which has room
abbrev pub invariant-loop-rest : goal.invariant-loop-rest
invariant-loop-rest l = record {
  so_far : take l.len l.bytes ++ spell l.rest ≡ spell l.fn.n;
  size : length l.bytes ≡ 10;
  inside : l.len + length (spell l.rest) ≤ 10;
  sum : l.len + length (spell l.rest) ≡ length (spell l.fn.n);
}

abbrev pub decreases-loop-rest : goal.decreases-loop-rest
decreases-loop-rest l = l.rest
