use Rattle.iobufs.proofs.Text.{Building, View, ap, arith, building_items, false≢true, filled, finished, items_inline, joined, length, ◌∙◌}
use Rattle.iobufs.proofs.Building.{finished-views, frozen-bytes, inline-building, of_pieces-joined}
use Rattle.iobufs.proofs.builder.Builder.finish.Goals as goal

pub returns-clause-ok : goal.returns-clause-ok
returns-clause-ok c =
    let b = c.self.inside in
    let inv = c.self.invariant in
    c.from_row.ensures
    ∙ of_pieces-joined c.in_ok-fill.field-0.views c.in_ok-fill.ensures.full
    ∙ ap joined c.in_ok-fill.ensures.filled
    ∙ ap (λ (v : View). joined (filled v b.pushes.segments)) c.in_ok-rest.ensures.ok
    ∙ finished-views b.inline b.pushes.segments b.placed inv.segments inv.counted inv.within
    ∙ ap finished c.self.view_is

pub returns-in_err-rest-clause-no_inline : goal.returns-in_err-rest-clause-no_inline
returns-in_err-rest-clause-no_inline c = λ none.
    let b = c.self.inside in
    let inv = c.self.invariant in
    let same = ap (λ (w : Building). items_inline (building_items w)) c.self.view_is in
    absurd (false≢true (c.in_err-rest.ensures.nothing
    (omega (arith, none, inline-building b.inline b.pushes.segments b.placed inv.counted inv.within, same))))

pub returns-in_err-fill-clause-no_inline : goal.returns-in_err-fill-clause-no_inline
returns-in_err-fill-clause-no_inline c = λ none.
    let b = c.self.inside in
    let inv = c.self.invariant in
    let all = inline-building b.inline b.pushes.segments b.placed inv.counted inv.within in
    let same = ap (λ (w : Building). items_inline (building_items w)) c.self.view_is in
    let bytes = ap (λ (v : View). length v.bytes) c.in_ok-rest.ensures.ok ∙ ap length (frozen-bytes b.inline) in
    absurd (false≢true (c.in_err-fill.ensures.no_bytes (omega (arith, none, all, same, bytes))))
