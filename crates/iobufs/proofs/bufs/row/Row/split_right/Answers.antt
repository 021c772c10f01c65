use Rattle.iobufs.proofs.Text.{IsRow, ViewRow, ap, inside-dropped, left-row, refl, right-row, subst, sym, ◌∙◌}
use Rattle.iobufs.proofs.bufs.row.Row.split_right.Goals as goal

pub cut-requires-clause-inside : goal.cut-requires-clause-inside
cut-requires-clause-inside c = inside-dropped _ _ _ _ _ _
    (ap (λ (r : ViewRow). r.views) c.self.view_is) c.requires.place c.in_ok-entries.ensures.tail

pub invariant_of-self : goal.invariant_of-self
invariant_of-self c = subst (λ items. IsRow c.self.inside.base items) (sym c.in_err-entries.ensures.err) c.self.invariant

pub invariant_of-self-2 : goal.invariant_of-self-2
invariant_of-self-2 c =
    (left-row c.self.inside.base _ _ _ _ _ _ _ _ c.in_ok-inside.inside c.self.invariant
    (ap (λ (r : ViewRow). r.views) c.self.view_is) c.requires.place
    c.in_ok-inside.ensures.inside c.ranges.at.fits refl c.in_ok-entries.ensures.items c.cut.ensures.front).0

pub invariant_of-replace : goal.invariant_of-replace
invariant_of-replace c =
    (right-row c.self.invariant (ap (λ (r : ViewRow). r.views) c.self.view_is) c.requires.place c.in_ok-entries.ensures.tail
    c.cut.ensures.behind).0

pub returns-clause-answer : goal.returns-clause-answer
returns-clause-answer c =
    ap (λ (r : ViewRow). r.views) c.replace.ensures.value
    ∙ (left-row c.self.inside.base _ _ _ _ _ _ _ _ c.in_ok-inside.inside c.self.invariant
    (ap (λ (r : ViewRow). r.views) c.self.view_is) c.requires.place
    c.in_ok-inside.ensures.inside c.ranges.at.fits refl c.in_ok-entries.ensures.items c.cut.ensures.front).1

pub returns-clause-left : goal.returns-clause-left
returns-clause-left c =
    ap (λ (r : ViewRow). r.views) c.replace.ensures.after
    ∙ (right-row c.self.invariant (ap (λ (r : ViewRow). r.views) c.self.view_is) c.requires.place c.in_ok-entries.ensures.tail
    c.cut.ensures.behind).1
