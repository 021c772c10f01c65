use Rattle.iobufs.proofs.Text.{Part, ap, arith, as_text, coalesced-copy, coalesced-one, bytes-several, good_layout, length, of_pieces, of_view, one-popped, only-cause, part_frozen, part_put, pieces_bytes, refl, single-more, sym, take_all, ◌-◌, ◌∙◌, ◌≡◌}
use Rattle.iobufs.proofs.bufs.gathered.Goals as goal

pub returns-then-count-eq1-clause-ok : goal.returns-then-count-eq1-clause-ok
returns-then-count-eq1-clause-ok c = coalesced-one _ _
    (sym (ap of_pieces (one-popped c.args.row.views _ _ c.pop_front.ensures (omega (arith, c.if-count-eq1.true, c.count.ensures.value)))))

pub returns-in_err-copy-clause-memory : goal.returns-in_err-copy-clause-memory
returns-in_err-copy-clause-memory c = λ l. only-cause c.from_residual.result _ _ c.from_residual.ensures.1
    (c.in_err-copy.ensures.good_layout (good_layout c.len.result (omega (arith, l, c.len.ensures.value))))

pub returns-clause-ok : goal.returns-clause-ok
returns-clause-ok c =
    let bytes = pieces_bytes c.args.row.views in
    let some = bytes-several c.args.row.views c.requires c.len.ensures.full in
    let none : c.len.result - length bytes ≡ 0 = omega (arith, c.len.ensures.value) in
    let put : c.copy_to.new.copy ≡ record { filled = bytes; spare = 0 } =
    c.copy_to.ensures ∙ ap (λ (p : Part). part_put p bytes) c.in_ok-copy.ensures.ok ∙ ap (λ k. record { filled = bytes; spare = k }) none in
    let several = single-more c.args.row.views _ refl (omega (arith, c.requires, c.if-count-eq1.false, c.count.ensures.value)) in
    let whole = coalesced-copy c.args.row.views _ bytes c.len.result refl several (omega (arith, c.len.ensures.value))
    (omega (arith, some, c.len.ensures.value)) (sym (take_all c.len.result bytes (omega (arith, c.len.ensures.value)))) in
    as_text c.freeze.result _ _ (ap (λ (p : Part). of_view (part_frozen p)) put ∙ whole) c.freeze.ensures.ok
