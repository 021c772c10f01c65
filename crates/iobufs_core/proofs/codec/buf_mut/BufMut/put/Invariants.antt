use Rattle.std.proofs.Common.{◌≡◌, ℕ, ◌≤◌, List, ◌++◌, length}
use Rattle.iobufs_core.proofs.codec.buf_mut.BufMut.put.Given as goal

-- some of the text has gone over, and the rest fits
abbrev pub invariant-loop-src : goal.invariant-loop-src
invariant-loop-src g l = record {
  done : List ℕ;
  filled : g.Self.BufMut.filled l.fn.self done l.self;
  whole : done ++ g.B.Buf.text l.src ≡ g.B.Buf.text l.fn.src;
  fits : length (g.B.Buf.text l.src) ≤ g.Self.BufMut.room l.self;
}

abbrev pub decreases-loop-src : goal.decreases-loop-src
decreases-loop-src g l = length (g.B.Buf.text l.src)
