use Rattle.iobufs_owner.proofs.Base.{arith, ap, length}
use Rattle.iobufs_owner.proofs.Borrowers.{counts-handle, fits-handle, counts-set}
use Rattle.iobufs_owner.specs.Lending.{Calling}
use Rattle.iobufs_owner.proofs.owner.calls.Calls.set.Goals as goal

pub uncount-requires : goal.uncount-requires
uncount-requires c =
    rw c.borrowed.ensures (counts-handle _ _ c.args.thread _ _ c.self.invariant
    (omega (arith, c.requires.there, ap (λ (n : Calling). length n.items) c.self.view_is)) c.index.ensures)

pub count-requires-clause-fits : goal.count-requires-clause-fits
count-requires-clause-fits c =
    fits-handle _ _ _ c.borrowed-2.result c.self.invariant (λ k. omega (arith, c.uncount.ensures.counts k))
    (let ok = c.self.inside.pending.ok in omega (arith, ok.0))

pub invariant_of-self : goal.invariant_of-self
invariant_of-self c =
    counts-set _ c.uncount.new.borrowers.items _ _ c.args.thread c.args.call _ c.index.result.now c.self.invariant
    (omega (arith, c.requires.there, ap (λ (n : Calling). length n.items) c.self.view_is)) c.index.ensures
    (rw c.borrowed.ensures at c.uncount.ensures.counts) (rw c.borrowed-2.ensures at c.count.ensures.counts)
