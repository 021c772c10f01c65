use Rattle.iobufs.proofs.Text.{[], ap, arith, empty_part, get_or, length, length-append, ltb-false, ltb-true, nat_tests, option_to_list, part_capacity, refl, sym, ◌++◌, ◌<◌, ◌∙◌, ◌∷◌, ◌≡◌, ◌≤◌}
use Rattle.iobufs.proofs.Parts.{draining-begins, draining-ends, draining-kept, draining-spent, draining-stops}
use Rattle.iobufs.proofs.bufs_mut.several.drain.Goals as goal
use Rattle.iobufs.proofs.bufs_mut.several.drain.Goals.{then-capacity-gt0-via-then-capacity-gt0, then-capacity-gt0-via-else-capacity-gt0+then-is_empty}

pub loop-rest-init : goal.loop-rest-init
loop-rest-init c = draining-begins c.args.row.now.items c.args.used c.args.n c.requires.behind c.requires.parts c.requires.some

pub loop-rest-preserved : goal.loop-rest-preserved
loop-rest-preserved c =
    let l = c.loop-rest in
    let part = c.unwrap-part.result in
    let rest = c.pop_front.new.self.items in
    let popped = c.pop_front.ensures.items ∙ ap (λ o. option_to_list o ++ rest) c.unwrap-part.ensures in
    let front : l.row.items ≡ part ∷ rest = sym (c.if-shorten.ensures.same refl) ∙ popped in
    let first = ap (λ ps. length (get_or ps 0 (empty_part 0)).filled) front in
    let most : c.len-len.result ≤ l.rest = omega (arith, ltb-false l.rest _ (sym c.if-shorten.ensures.tells), first, c.len-len.ensures) in
    draining-spent l.row.items rest part c.advance.new.self l.behind l.rest c.len-len.result _ l.invariant c.loop-rest-test.true front
    c.len-len.ensures most c.advance.ensures (omega (arith, c.capacity.ensures, c.if-capacity-gt0.false))
    (grind (arith, nat_tests, c.if-is_empty.ensures))

pub loop-rest-preserved-in-loop-rest : goal.loop-rest-preserved-in-loop-rest
loop-rest-preserved-in-loop-rest c =
    let l = c.loop-rest in
    let part = c.unwrap-part.result in
    let rest = c.pop_front.new.self.items in
    let popped = c.pop_front.ensures.items ∙ ap (λ o. option_to_list o ++ rest) c.unwrap-part.ensures in
    let front : l.row.items ≡ part ∷ rest = sym (c.if-shorten.ensures.same refl) ∙ popped in
    let first = ap (λ ps. length (get_or ps 0 (empty_part 0)).filled) front in
    let last = c.push_back_reserved.ensures.items in
    let able : 1 < length c.push_back_reserved.new.self.items → 0 < part_capacity c.advance.new.self =
    λ more.
    elim c.then-capacity-gt0.branch [
      | then-capacity-gt0-via-then-capacity-gt0 w ↦ omega (arith, c.capacity.ensures, w.if-capacity-gt0.true)
      | then-capacity-gt0-via-else-capacity-gt0+then-is_empty w ↦
          absurd (grind (arith, nat_tests, more, ap length last, length-append rest (c.advance.new.self ∷ []), w.if-is_empty.ensures))
    ] in
    draining-kept l.row.items rest part c.advance.new.self l.behind l.rest c.len-len.result _ l.invariant c.loop-rest-test.true front
    c.len-len.ensures (omega (
      arith,
      ltb-false l.rest _ (sym c.if-shorten.ensures.tells),
      first,
      c.len-len.ensures,
    )) c.advance.ensures _ able last

pub returns-after-loop-rest-clause-drained : goal.returns-after-loop-rest-clause-drained
returns-after-loop-rest-clause-drained c =
    let l = c.loop-rest in
    (draining-ends l.row.items l.behind l.rest _ (omega (arith, c.loop-rest-test.false)) l.invariant).0

-- the first part holds more than is to go
pub returns-then-shorten-clause-drained : goal.returns-then-shorten-clause-drained
returns-then-shorten-clause-drained c =
    let l = c.loop-rest in
    let less = ltb-true l.rest _ (sym c.if-shorten.ensures.tells) in
    (draining-ends _ l.behind 0 _ refl (draining-stops l.row.items _ l.behind l.rest _ l.invariant less
    (c.if-shorten.ensures.drained refl))).0

pub returns-then-shorten-clause-behind : goal.returns-then-shorten-clause-behind
returns-then-shorten-clause-behind c =
    let l = c.loop-rest in
    let less = ltb-true l.rest _ (sym c.if-shorten.ensures.tells) in
    (draining-ends _ l.behind 0 _ refl (draining-stops l.row.items _ l.behind l.rest _ l.invariant less
    (c.if-shorten.ensures.drained refl))).1
