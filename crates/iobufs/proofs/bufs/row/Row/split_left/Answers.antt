use Rattle.iobufs.proofs.Text.{ViewRow, ap, inside-dropped, left-row, refl, right-row, take, ◌++◌, ◌∙◌}
use Rattle.iobufs.proofs.bufs.row.Row.split_left.Goals as goal

pub cut-requires-clause-inside : goal.cut-requires-clause-inside
cut-requires-clause-inside c = inside-dropped _ _ _ _ _ _
    (ap (λ (r : ViewRow). r.views) c.self.view_is) c.requires.place c.move_front.ensures.left

pub invariant_of-result : goal.invariant_of-result
invariant_of-result c =
    let moved = c.move_front.ensures.moved ∙ ap (λ (xs : _). xs
    ++ take c.args.place.index c.self.inside.entries.items) c.in_ok-front.ensures.items in
    (left-row c.self.inside.base _ _ _ _ _ _ _ _ c.in_ok-inside.inside c.self.invariant
    (ap (λ (r : ViewRow). r.views) c.self.view_is) c.requires.place
    c.in_ok-inside.ensures.inside c.ranges.at.fits refl moved c.cut.ensures.front).0

pub invariant_of-self : goal.invariant_of-self
invariant_of-self c =
    (right-row c.self.invariant (ap (λ (r : ViewRow). r.views) c.self.view_is) c.requires.place c.move_front.ensures.left
    c.cut.ensures.behind).0

pub returns-clause-answer : goal.returns-clause-answer
returns-clause-answer c =
    let moved = c.move_front.ensures.moved ∙ ap (λ (xs : _). xs
    ++ take c.args.place.index c.self.inside.entries.items) c.in_ok-front.ensures.items in
    (left-row c.self.inside.base _ _ _ _ _ _ _ _ c.in_ok-inside.inside c.self.invariant
    (ap (λ (r : ViewRow). r.views) c.self.view_is) c.requires.place
    c.in_ok-inside.ensures.inside c.ranges.at.fits refl moved c.cut.ensures.front).1

pub returns-clause-left : goal.returns-clause-left
returns-clause-left c =
    (right-row c.self.invariant (ap (λ (r : ViewRow). r.views) c.self.view_is) c.requires.place c.move_front.ensures.left
    c.cut.ensures.behind).1
