use Rattle.iobufs_owner.proofs.Base.{◌≡◌, arith, refl, Seen, State, ap, next_record, state_of, subst}
use Rattle.iobufs_owner.proofs.WorldSteps.{good-yes, good-no}
use Rattle.iobufs_owner.proofs.owner.Machine.external_block.Goals as goal

pub returns-then-not-is_good_place : goal.returns-then-not-is_good_place
returns-then-not-is_good_place c = rw (good-no _ _ _ _ (c.is_good_place.ensures.no c.if-not-is_good_place.true)) (refl, refl, refl)

pub returns-then-not-memory : goal.returns-then-not-memory
returns-then-not-memory c = rw (good-yes _ _ _ _ (c.is_good_place.ensures.yes c.if-not-is_good_place.false), c.if-not-memory.true)
    (refl, refl, refl)

pub returns : goal.returns
returns c =
    let n : c.len.result ≡ next_record (state_of c.self.inside) = omega (arith, c.len.ensures) in
    let m = subst (λ (s : State). c.len.result ≡ next_record s) (ap (λ (m : Seen). m.state) c.self.view_is) n in
    rw (good-yes _ _ _ _ (c.is_good_place.ensures.yes c.if-not-is_good_place.false), c.if-not-memory.false, ← m) c.add_recorded.ensures
