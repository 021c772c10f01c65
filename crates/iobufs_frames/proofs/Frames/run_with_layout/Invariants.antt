use Rattle.std.proofs.Common.{◌≡◌, ◌≤◌, ℕ, List, ◌++◌, length}
use Rattle.iobufs_frames.specs.Frames.{HasBodies, bodies, joined_bytes}
use Rattle.iobufs_core.specs.declared.codec.base.Error.TheVariants.{InvalidVarint}
use Rattle.iobufs_frames.specs.declared.End.TheVariants.{Bad}
use Rattle.iobufs_frames.specs.declared.lengths.Prefix.TheVariants.{Spelled}
use Rattle.iobufs_frames.proofs.Frames.run_with_layout.Given as goal

-- the bytes fed so far are these frames and the rest; the bytes still to be fed complete the input. No more chunks are to be
-- fed than there were
abbrev pub invariant-loop-piece : goal.invariant-loop-piece
invariant-loop-piece l = record {
  same : l.frames.layout ≡ l.fn.layout;
  text : List ℕ;
  framed : HasBodies l.fn.layout l.range text (bodies l.found.items) l.stop l.frames.rest.bytes;
  spelled : l.stop ≡ Bad InvalidVarint → l.fn.layout.prefix ≡ Spelled;
  whole : text ++ joined_bytes l.piece-iterator.rest.items ≡ joined_bytes l.initial.piece-iterator.rest.items;
  fewer : length l.piece-iterator.rest.items ≤ length l.initial.piece-iterator.rest.items;
}
