use Rattle.std.proofs.Common.{List, ℕ, subst, sym}
use Rattle.iobufs_frames.specs.Prefixes.{IsSeenIn}
use Rattle.iobufs_frames.proofs.block.Received.make_space.Goals as goal

pub invariant_of-self : goal.invariant_of-self
invariant_of-self c =
    λ l is. subst (λ (w : List ℕ). IsSeenIn c.self.inside.layout w l.value l.len) (sym c.widen.ensures.items) (c.self.invariant l is)

pub invariant_of-self-2 : goal.invariant_of-self-2
invariant_of-self-2 c =
    λ l is. subst (λ (w : List ℕ). IsSeenIn c.self.inside.layout w l.value l.len) (sym c.widen.ensures.items) (c.self.invariant l is)
