use Rattle.std.proofs.Common.{◌≡◌, ◌∙◌, List, ap, length, subst, sym, take, ℕ}
use Rattle.iobufs_frames.specs.Prefixes.{IsSeenIn}
use Rattle.iobufs_frames.specs.Receiving.{ReceivedBytes}
use Rattle.iobufs_frames.proofs.block.Received.lend_space.Goals as goal

pub invariant_of-self : goal.invariant_of-self
invariant_of-self c =
    let r = c.self.inside in
    let same : c.truncate.new.self.items ≡ r.block.items = c.truncate.ensures.items
    ∙ ap (λ block. take c.len-len.result block.items) c.address_from.ensures
    ∙ ap (λ n. take n c.advance_mut.new.self.items) (c.len-len.ensures.value
    ∙ sym (ap (λ (v : ReceivedBytes). length v.bytes) c.self.view_is))
    ∙ c.advance_mut.ensures.front in
    λ l is. subst (λ (w : List ℕ). IsSeenIn r.layout w l.value l.len) (sym same) (c.self.invariant l is)
