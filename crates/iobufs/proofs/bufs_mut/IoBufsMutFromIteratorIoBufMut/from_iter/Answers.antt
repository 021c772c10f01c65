use Rattle.iobufs.specs.Parts.{kept_parts, parts_capacity}
use Rattle.iobufs.proofs.Collected.{drained}
use Rattle.iobufs.proofs.Text.{◌<◌, ◌^◌}
use Rattle.iobufs.proofs.bufs_mut.IoBufsMutFromIteratorIoBufMut.from_iter.Goals as goal

pub returns-in-Ok-clause-ran : goal.returns-in-Ok-clause-ran
returns-in-Ok-clause-ran g c =
    let all = drained _ _ _ (λ parts. parts_capacity parts < 2 ^ 64) kept_parts c.in-Ok.bufs c.in-Ok.ensures.ok in
    (c.into_iter.result, all.0, c.into_iter.ensures.into_iter_gives, all.1, all.2)
