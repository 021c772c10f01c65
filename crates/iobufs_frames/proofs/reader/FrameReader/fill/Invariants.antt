use Rattle.std.proofs.Common.{◌≡◌}
use Rattle.std.specs.Io.KnownBytes.{Keeps}
use Rattle.iobufs_frames.proofs.reader.FrameReader.fill.Given as goal

-- nothing was read so far
abbrev pub invariant-loop : goal.invariant-loop
invariant-loop g l = record {
  held : l.self.held ≡ l.fn.self.held;
  range : l.self.range ≡ l.fn.self.range;
  kept : Keeps (g.R.Read.remaining l.fn.self.from) (g.R.Read.remaining l.self.from);
}
