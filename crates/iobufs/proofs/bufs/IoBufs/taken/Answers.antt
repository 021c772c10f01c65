use Rattle.iobufs.proofs.Text.{Err, Excluded, Included, Ok, OnOk, Result, View, across-native, ap, arith, as_view, bytes-fit, length, length-kept, refl, rest-length, static-within, sym, taken-across, taken-within, taken_view, taken_view-none, view_slice, ◌+◌, ◌∙◌}
use Rattle.iobufs.proofs.bufs.IoBufs.taken.Goals as goal

pub returns-then-n-eq0-clause-ok : goal.returns-then-n-eq0-clause-ok
returns-then-n-eq0-clause-ok c =
    c.default.ensures ∙ sym (ap (λ n. taken_view c.args.self.now c.args.skip n) c.if-n-eq0.true
    ∙ taken_view-none c.args.skip c.args.self.now)

pub locate-place-requires : goal.locate-place-requires
locate-place-requires c = omega (arith, c.requires, c.if-n-eq0.false, length-kept c.self.inside _ c.self.view_is)

pub returns-then-n-len-clause-ok : goal.returns-then-n-len-clause-ok
returns-then-n-len-clause-ok c =
    let n = length-kept c.self.inside _ c.self.view_is in
    let o = c.locate-place.result.offset in
    let within = taken-within _ c.args.self.now c.args.skip c.args.n _ o c.self.view_is c.locate-place.ensures.place
    (omega (arith, c.requires, c.if-n-eq0.false)) (omega arith) (omega (arith, ap (λ (v : View). length v.bytes) c.piece-piece.ensures)) in
    as_view c.slice.result _ _ (ap (λ v. view_slice v (Included o) (Excluded (o + c.args.n))) c.piece-piece.ensures
    ∙ within) c.slice.ensures.ok

pub copied-requires-clause-inside : goal.copied-requires-clause-inside
copied-requires-clause-inside c =
    let n = length-kept c.self.inside _ c.self.view_is in
    let rest = rest-length c.self.inside.pieces c.locate-place.result.index in
    omega (arith, c.requires, c.if-n-eq0.false, c.locate-place.ensures.place.sum)

pub returns-in-Ok-clause-ok : goal.returns-in-Ok-clause-ok
returns-in-Ok-clause-ok c =
    let n = length-kept c.self.inside _ c.self.view_is in
    c.in-Ok.ensures.ok ∙ taken-across _ c.args.self.now c.args.skip c.args.n _ _ _ c.self.view_is c.locate-place.ensures.place
    (omega (arith, c.requires, c.if-n-eq0.false)) (omega (arith, ap (λ (v : View). length v.bytes) c.piece-piece.ensures)) refl

pub returns-then-n-len-clause-static_text : goal.returns-then-n-len-clause-static_text
returns-then-n-len-clause-static_text c = λ static.
    let n = length-kept c.self.inside _ c.self.view_is in
    c.slice.ensures.static_text (ap (λ (v : View). v.mark) c.piece-piece.ensures
    ∙ static-within _ c.args.self.now c.args.skip c.args.n _ c.locate-place.result.offset c.self.view_is c.locate-place.ensures.place
    (omega (arith, c.requires, c.if-n-eq0.false)) (omega arith)
    (omega (arith, ap (λ (v : View). length v.bytes) c.piece-piece.ensures)) static)

pub returns-in-Err-clause-static_text : goal.returns-in-Err-clause-static_text
returns-in-Err-clause-static_text c = λ static.
    let n = length-kept c.self.inside _ c.self.view_is in
    absurd (across-native _ c.args.self.now c.args.skip c.args.n _ _ c.self.view_is c.locate-place.ensures.place
    (omega (arith, c.requires, c.if-n-eq0.false)) (omega (arith, ap (λ (v : View). length v.bytes) c.piece-piece.ensures)) static)

whichever : {P E : Type 0} (result : Result View E) → P → OnOk result P
whichever (Ok view) true_anyway = true_anyway
whichever (Err cause) true_anyway = tt

pub returns-then-n-len-clause-fits : goal.returns-then-n-len-clause-fits
returns-then-n-len-clause-fits c =
    let place = c.locate-place.ensures in
    let all = bytes-fit _ _ _ _ place.place (omega (arith, ap (λ (v : View). length v.bytes) c.piece-piece.ensures)) place.fits in
    whichever c.slice.result (omega (arith, c.requires, length-kept c.self.inside _ c.self.view_is))

pub returns-in-Ok-clause-fits : goal.returns-in-Ok-clause-fits
returns-in-Ok-clause-fits c =
    let place = c.locate-place.ensures in
    let all = bytes-fit _ _ _ _ place.place (omega (arith, ap (λ (v : View). length v.bytes) c.piece-piece.ensures)) place.fits in
    omega (arith, c.requires, length-kept c.self.inside _ c.self.view_is)
