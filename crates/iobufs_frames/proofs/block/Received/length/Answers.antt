use Rattle.std.proofs.Common.{subst}
use Rattle.iobufs_frames.specs.Prefixes.{IsSeenIn}
use Rattle.iobufs_frames.specs.Receiving.{ReceivedBytes}
use Rattle.iobufs_frames.proofs.block.Received.length.Goals as goal

pub returns-in-Some-clause-found : goal.returns-in-Some-clause-found
returns-in-Some-clause-found c =
    let l = c.in-Some.found in
    subst (λ (r : ReceivedBytes). IsSeenIn r.layout r.bytes l.value l.len) c.self.view_is (c.self.invariant l c.in-Some.is)
