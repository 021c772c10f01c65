use Rattle.std.specs.Io.KnownBytes.{Consumes, Keeps}
use Rattle.iobufs_frames.proofs.BlockLaws.{seen_read}
use Rattle.iobufs_frames.proofs.block.Received.read_from.Goals as goal

pub invariant_of-self : goal.invariant_of-self
invariant_of-self g c =
    let r = c.self.inside in
    λ l is. seen_read r.layout r.block c.read_from.new.self l.value l.len
    (λ more. Consumes (g.R.Read.remaining c.args.from.now) (g.R.Read.remaining c.read_from.new.from) more)
    (Keeps (g.R.Read.remaining c.args.from.now) (g.R.Read.remaining c.read_from.new.from))
    c.read_from.result c.read_from.ensures.ok c.read_from.ensures.err
    (c.self.invariant l is)
