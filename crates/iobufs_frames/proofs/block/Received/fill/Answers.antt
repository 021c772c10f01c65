use Rattle.std.proofs.Common.{List, ℕ, arith, drop, length, length-drop, refl, subst, sym}
use Rattle.iobufs_frames.proofs.BlockLaws.{grown, seen_later}
use Rattle.iobufs_frames.specs.Prefixes.{IsSeenIn}
use Rattle.iobufs_frames.specs.Receiving.{HasReceived, ReceivedBytes}
use Rattle.iobufs_frames.proofs.block.Received.fill.Goals as goal

pub invariant_of-self : goal.invariant_of-self
invariant_of-self c =
    let r = c.self.inside in
    let items = c.advance_mut.new.self.items in
    λ l is. subst (λ (w : List ℕ). IsSeenIn r.layout w l.value l.len) (sym (grown r.block.items items c.advance_mut.ensures.front))
    (seen_later r.layout r.block.items (drop (length r.block.items) items) l.value l.len (c.self.invariant l is))

pub returns : goal.returns
returns c =
    let r = c.self.inside in
    let block = c.advance_mut.new.self in
    let new : ReceivedBytes = record { layout = r.layout; bytes = block.items; space = block.spare } in
    subst (λ (old : ReceivedBytes). HasReceived c.args.n old new) c.self.view_is (record {
      more = drop (length r.block.items) block.items;
      count = omega (arith, length-drop (length r.block.items) block.items, c.advance_mut.ensures.len);
      bytes = grown r.block.items block.items c.advance_mut.ensures.front;
      space = c.advance_mut.ensures.spare;
      layout = refl;
    })
