use Rattle.iobufs_owner.proofs.Base.{refl, log-is, arith, fits_in, next_record, false, Outcome, Took, State, Seen, state_of, described_of, placed, made_block, ap, log_of, subst, ◌≡◌, fits-false}
use Rattle.iobufs_owner.proofs.WorldSteps.{described-placed, good-yes, good-no}
use Rattle.iobufs_owner.proofs.owner.Machine.new_block.Goals as goal

pub returns-then-not-is_good_place : goal.returns-then-not-is_good_place
returns-then-not-is_good_place c = rw (good-no _ _ _ _ (c.is_good_place.ensures.no c.if-not-is_good_place.true)) (refl, refl, refl)

pub returns-then-not-memory : goal.returns-then-not-memory
returns-then-not-memory c = rw (good-yes _ _ _ _ (c.is_good_place.ensures.yes c.if-not-is_good_place.false), c.if-not-memory.true)
    (refl, refl, refl)

pub returns-in-Some : goal.returns-in-Some
returns-in-Some c =
    let good = c.is_good_place.ensures.yes c.if-not-is_good_place.false in
    let w = c.in-Some.ensures.sum (log_of c.args.align) (log-is _ _ _ good.place) in
    let e = described-placed (state_of c.self.inside) c.args.base c.args.size c.args.align c.in-Some.word w.0 w.1 in
    let b = made_block c.args.base c.args.size c.args.align false in
    rw (good-yes _ _ _ _ good, c.if-not-memory.false)
    (subst (λ (o : Outcome). Took c.args.self.now o c.add_described.result c.add_described.new.self)
    (subst (λ (s : State). described_of s b c.in-Some.word ≡ placed s c.args.base c.args.size c.args.align)
    (ap (λ (m : Seen). m.state) c.self.view_is) e)
    c.add_described.ensures)

pub returns-in-None : goal.returns-in-None
returns-in-None c =
    let good = c.is_good_place.ensures.yes c.if-not-is_good_place.false in
    let never = c.in-None.ensures.sum (log_of c.args.align) (log-is _ _ _ good.place) in
    let view = ap (λ (m : Seen). m.state) c.self.view_is in
    let f = subst (λ (s : State). fits_in s.tables c.args.size (log_of c.args.align) 0 ≡ false) view (fits-false _ _ _ _ _ _ never) in
    let n : c.len.result ≡ next_record (state_of c.self.inside) = omega (arith, c.len.ensures) in
    let m = subst (λ (s : State). c.len.result ≡ next_record s) view n in
    rw (good-yes _ _ _ _ good, c.if-not-memory.false, f, ← m) c.add_recorded.ensures
