use Rattle.std.proofs.Common.{◌≡◌, ◌≤◌, length, take, drop}
use Rattle.iobufs_frames.proofs.lengths.front.Given as goal

-- the first bytes are copied
abbrev pub invariant-loop-i : goal.invariant-loop-i
invariant-loop-i g l = record {
  there : l.i ≤ length (drop l.skip (g.B.Buf.text l.buf));
  copied : take l.i l.bytes ≡ take l.i (drop l.skip (g.B.Buf.text l.buf));
  size : length l.bytes ≡ g.row.N;
}
