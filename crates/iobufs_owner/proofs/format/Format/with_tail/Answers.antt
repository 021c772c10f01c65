use Rattle.iobufs_owner.proofs.Base.{some-iff, retailed-is}
use Rattle.iobufs_owner.proofs.format.Format.with_tail.Goals as goal

pub pack-requires : goal.pack-requires
pack-requires c =
    let w = c.requires in
    let u = c.unpack-fields.ensures.inverse w.size w.log w.tail w.room w.is in
    (w.log, u.1)

pub returns-clause-sum : goal.returns-clause-sum
returns-clause-sum c = λ size log old room is.
    let u = c.unpack-fields.ensures.inverse size log old room is in
    let p = c.pack.ensures.sum log u.1 in
    some-iff _ _ _ _ (rw u.0 at p) (λ h. h.tail_fits)
    (λ t. record { some = room.some; log_fits = room.log_fits; tail_fits = t; size_fits = room.size_fits })

pub returns-clause-same : goal.returns-clause-same
returns-clause-same c =
    let f = c.args.self.now in
    let w = c.requires in
    let u = c.unpack-fields.ensures.inverse w.size w.log w.tail w.room w.is in
    let p = c.pack.ensures.sum w.log u.1 in
    rw (retailed-is f.align_bits f.tail_bits f.size_bits c.args.word w.size w.log w.tail c.args.tail w.room w.is)
    (some-iff _ _ _ _ (rw u.0 at p) (λ h. h.tail_fits) (λ t. record {
      some = w.room.some;
      log_fits = w.room.log_fits;
      tail_fits = t;
      size_fits = w.room.size_fits;
    }))
