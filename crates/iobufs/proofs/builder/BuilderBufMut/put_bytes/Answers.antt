use Rattle.iobufs.proofs.Text.{building_room, length-replicate, replicate, subst, sym, ◌≤◌}
use Rattle.iobufs.proofs.Building.{put-kept}
use Rattle.iobufs.proofs.builder.BuilderBufMut.put_bytes.Goals as goal

pub returns : goal.returns
returns c =
    let b = c.self.inside in
    let inv = c.self.invariant in
    let fits = subst (λ n. n ≤ building_room c.args.self.now) (sym (length-replicate c.args.n c.args.value)) c.requires in (
      fits,
      put-kept b.inline _ b.pushes.segments b.placed _
          (replicate c.args.n c.args.value) inv.counted inv.within c.self.view_is fits c.put_bytes.ensures.1,
    )
