use Rattle.iobufs.proofs.Text.{ap, arith, in_order, length, ltb-true, parts_drained, parts_filled, refl, sym, ◌∙◌, ◌≤◌}
use Rattle.iobufs.proofs.Parts.{fewer-drained, filled-order, first-length, kept-drained-row, order-length, shortened-row, spare-summed}
use Rattle.iobufs.proofs.bufs_mut.several.Several.advance.Goals as goal

pub drain-self-inside-requires-clause-some : goal.drain-self-inside-requires-clause-some
drain-self-inside-requires-clause-some c =
    let s = c.self.inside in
    let bytes = filled-order s.row.items s.used c.self.invariant.behind ∙ ap parts_filled c.self.view_is in
    omega (arith, c.requires, ap length bytes, ap (λ ps. length (parts_filled ps)) (c.if-not-shorten.ensures.same refl))

pub overflow_sub-self-2 : goal.overflow_sub-self-2
overflow_sub-self-2 c =
    let s = c.self.inside in
    let sums = c.self.invariant.sums in
    omega (
      arith,
      spare-summed (in_order s.row.items s.used) s.len s.capacity sums,
      ap (λ ps. length (parts_filled ps)) c.self.view_is,
      sums.len_is,
      c.requires,
    )

pub overflow_sub-count : goal.overflow_sub-count
overflow_sub-count c =
    let s = c.self.inside in
    omega (
      arith,
      ap length (c.if-not-shorten.ensures.same refl),
      order-length s.row.items s.used,
      order-length c.drain-self-inside.new.row.items c.drain-self-inside.result,
      ap length (c.drain-self-inside.ensures.drained
          ∙ ap (λ row. parts_drained (in_order row s.used) c.args.n) (c.if-not-shorten.ensures.same refl)),
      fewer-drained (in_order s.row.items s.used) c.args.n c.self.invariant.parts,
    )

pub invariant_of-self : goal.invariant_of-self
invariant_of-self c =
    let s = c.self.inside in
    let left = c.drain-self-inside.ensures in
    let same = ap (λ row. parts_drained (in_order row s.used) c.args.n) (c.if-not-shorten.ensures.same refl) in
    kept-drained-row s.row.items _ s.used _ c.args.n s.full _ s.len s.capacity c.self.invariant
    (omega (arith, c.requires, ap (λ ps. length (parts_filled ps)) c.self.view_is)) (left.drained ∙ same) left.behind
    (omega (
      arith,
      c.saturating_sub-self-inside.ensures,
      c.len-count.ensures,
      c.len.ensures,
      ap length (c.if-not-shorten.ensures.same refl),
    ))

pub invariant_of-self-else-len-count : goal.invariant_of-self-else-len-count
invariant_of-self-else-len-count c =
    let s = c.self.inside in
    let left = c.drain-self-inside.ensures in
    let same = ap (λ row. parts_drained (in_order row s.used) c.args.n) (c.if-not-shorten.ensures.same refl) in
    kept-drained-row s.row.items _ s.used _ c.args.n s.full _ s.len s.capacity c.self.invariant
    (omega (arith, c.requires, ap (λ ps. length (parts_filled ps)) c.self.view_is)) (left.drained ∙ same) left.behind
    (omega (arith, c.len-count.ensures, c.len.ensures, c.if-len-count.false, ap length (c.if-not-shorten.ensures.same refl)))

pub invariant_of-self-else-not-shorten : goal.invariant_of-self-else-not-shorten
invariant_of-self-else-not-shorten c =
    let s = c.self.inside in
    let kept = c.self.invariant in
    let drained = c.if-not-shorten.ensures.drained refl in
    let some : c.args.n ≤ length (parts_filled (in_order s.row.items s.used)) = omega
    (arith, c.requires, ap (λ ps. length (parts_filled ps)) c.self.view_is) in
    let left = shortened-row s.row.items _ s.used c.args.n kept.behind kept.parts some
    (ltb-true _ _ (sym c.if-not-shorten.ensures.tells)) drained in
    kept-drained-row s.row.items _ s.used s.used c.args.n s.full s.full s.len s.capacity kept some left.0 left.1
    (omega (arith, ap length drained, first-length s.row.items c.args.n))

pub returns-else-not-shorten : goal.returns-else-not-shorten
returns-else-not-shorten c =
    let s = c.self.inside in
    let kept = c.self.invariant in
    let some : c.args.n ≤ length (parts_filled (in_order s.row.items s.used)) = omega
    (arith, c.requires, ap (λ ps. length (parts_filled ps)) c.self.view_is) in
    let less = ltb-true c.args.n _ (sym c.if-not-shorten.ensures.tells) in
    cc (
      (shortened-row s.row.items _ s.used c.args.n kept.behind kept.parts some less (c.if-not-shorten.ensures.drained refl)).0,
      c.self.view_is,
    )
