use Rattle.iobufs.proofs.Building.{IsBuilding-kept}
use Rattle.iobufs.proofs.builder.BuilderBufMut.remaining_mut.Goals as goal

pub returns-clause-building : goal.returns-clause-building
returns-clause-building c =
    let b = c.self.inside in
    let inv = c.self.invariant in
    IsBuilding-kept b.inline b.pushes.segments b.placed b.pushable _ inv.counted inv.within inv.segments inv.limited c.self.view_is
