use Rattle.iobufs_owner.proofs.Base.{sym, shifted-one}
use Rattle.iobufs_owner.proofs.owner.make.is_place.Goals as goal

pub returns-then-align-clause-no : goal.returns-then-align-clause-no
returns-then-align-clause-no c = λ _ p.
    let e = shifted-one c.args.align p.power.0 c.ranges.align.fits p.power.1 in
    c.if-align.true (sym e)
