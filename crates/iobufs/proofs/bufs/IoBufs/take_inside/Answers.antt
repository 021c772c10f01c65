use Rattle.iobufs.proofs.Text.{Excluded, Included, View, ap, arith, false≢true, first-kept, length, length-behind, length-kept, rules, static-first, subst, sym, taken-first, view_slice, ◌+◌, ◌∙◌, ◌≤◌}
use Rattle.iobufs.proofs.bufs.IoBufs.take_inside.Goals as goal

pub slice-requires : goal.slice-requires
slice-requires g c =
    let first = ap (λ (v : View). length v.bytes) c.first-first.ensures.value in
    let inside : c.args.skip + c.args.n ≤ length c.first-first.result.now.bytes =
    omega (arith, c.requires.inside, ap length (first-kept c.self.inside.pieces _ c.self.view_is c.first-first.ensures.pieces)) in
    Prim.search (rules, inside)

pub drop_front-requires : goal.drop_front-requires
drop_front-requires g c =
    let s = c.self.inside in
    let held = ap length (first-kept s.pieces _ c.self.view_is c.first-first.ensures.pieces) in
    omega (arith, c.requires.inside, held, length-behind s.pieces, length-kept s _ c.self.view_is)

pub returns-clause-ok : goal.returns-clause-ok
returns-clause-ok g c =
    let held = ap length (first-kept c.self.inside.pieces _ c.self.view_is c.first-first.ensures.pieces) in
    subst (λ view. g.T.OwnedBytes.makes view c.in_ok-made.made)
    (c.in_ok-view.ensures.ok ∙ ap (λ v. view_slice v (Included c.args.skip) (Excluded (c.args.skip + c.args.n))) c.first-first.ensures.value
    ∙ taken-first _ _ c.args.skip c.args.n c.self.view_is c.requires.some (omega (arith, held, c.requires.inside)))
    c.in_ok-made.ensures.ok

pub returns-in_err-view-clause-static_text : goal.returns-in_err-view-clause-static_text
returns-in_err-view-clause-static_text g c = λ static free.
    let held = ap length (first-kept c.self.inside.pieces _ c.self.view_is c.first-first.ensures.pieces) in
    let piece = static-first _ _ c.args.skip c.args.n c.self.view_is c.requires.some (omega (arith, held, c.requires.inside)) static in
    absurd (false≢true (c.in_err-view.ensures.static_text (ap (λ (v : View). v.mark) c.first-first.ensures.value ∙ piece)))

pub returns-in_err-made-clause-static_text : goal.returns-in_err-made-clause-static_text
returns-in_err-made-clause-static_text g c = λ static free.
    let held = ap length (first-kept c.self.inside.pieces _ c.self.view_is c.first-first.ensures.pieces) in
    let cut = ap (λ v. view_slice v (Included c.args.skip) (Excluded (c.args.skip + c.args.n))) c.first-first.ensures.value in
    let view = c.in_ok-view.ensures.ok ∙ cut
    ∙ taken-first _ _ c.args.skip c.args.n c.self.view_is c.requires.some (omega (arith, held, c.requires.inside)) in
    absurd (false≢true (c.in_err-made.ensures.free (subst (λ view. g.T.OwnedBytes.is_free view) (sym view) free)))
