use Rattle.iobufs.proofs.Building.{put-kept}
use Rattle.iobufs.proofs.builder.BuilderBufMut.put_slice.Goals as goal

pub returns : goal.returns
returns c =
    let b = c.self.inside in
    let inv = c.self.invariant in (
      c.requires,
      put-kept b.inline _ b.pushes.segments b.placed _ c.args.src.now inv.counted inv.within c.self.view_is
          c.requires c.put_slice.ensures.1,
    )
