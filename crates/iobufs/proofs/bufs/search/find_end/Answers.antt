use Rattle.iobufs.proofs.Text.{IsRising, List, ap, arith, by_lt, few_digits, few_probes, get_or, halved, length, ltb-false, no_less, one_more, subst, sym, twice, ℕ, ◌*◌, ◌+◌, ◌-◌, ◌/◌, ◌<◌, ◌^◌, ◌∙◌, ◌≡◌, ◌≤◌}
use Rattle.iobufs.proofs.bufs.search.find_end.Goals as goal

pub past-requires-clause-more : goal.past-requires-clause-more
past-requires-clause-more g c =
    let i = c.loop-first.invariant in
    few_probes _ _ i.few (omega (arith, ap length i.same_ends, c.count-last.ensures.count))

-- ends up to one that isn't past a place aren't either
upto : (xs : List ℕ) (place m : ℕ) → IsRising xs → m < length xs → get_or xs m 0 ≤ place → (j : ℕ) → j < m + 1 → get_or xs j 0 ≤ place
upto xs place m rising l h j k =
    by_lt j m (λ e. let r = rising j m e l in omega arith) (λ e. let same : j ≡ m = omega arith in rw same h)

pub loop-first-preserved-then-past : goal.loop-first-preserved-then-past
loop-first-preserved-then-past g c =
    let i = c.loop-first.invariant in
    let p = c.past.ensures in
    rw (p.same_ends, p.same_place) (record {
      ordered = omega arith;
      inside = omega (arith, i.inside);
      past = grind arith;
      before = i.before;
      same_ends = i.same_ends;
      same_place = i.same_place;
      work = halved _ _ (c.loop-first.last - c.loop-first.first) _ _ p.probed (omega arith) i.work;
      few = one_more _ _ (c.loop-first.last - c.loop-first.first) _ p.probed (omega arith) i.work;
      halves = no_less _ _ (c.loop-first.last - c.loop-first.first + 2) _ _ p.probed (omega arith) i.halves;
    })

pub loop-first-preserved : goal.loop-first-preserved
loop-first-preserved g c =
    let i = c.loop-first.invariant in
    let p = c.past.ensures in
    let rising = subst IsRising (sym i.same_ends) c.count-last.ensures.rising in
    let low = ltb-false _ _ (sym p.answer ∙ c.if-past.false) in
    rw (p.same_ends, p.same_place) (record {
      ordered = omega arith;
      inside = i.inside;
      past = i.past;
      before = upto _ _ (c.loop-first.first + (c.loop-first.last - c.loop-first.first) / 2) rising (omega (arith, i.inside)) low;
      same_ends = i.same_ends;
      same_place = i.same_place;
      work = halved _ _ (c.loop-first.last - c.loop-first.first) _ _ p.probed (omega arith) i.work;
      few = one_more _ _ (c.loop-first.last - c.loop-first.first) _ p.probed (omega arith) i.work;
      halves = no_less _ _ (c.loop-first.last - c.loop-first.first + 2) _ _ p.probed (omega arith) i.halves;
    })

pub returns-clause-digits : goal.returns-clause-digits
returns-clause-digits g c = λ d l. few_digits (g.E.Ends.probed c.loop-first.ends) (length (g.E.Ends.ends c.args.ends.now)) d
    (omega (arith, c.loop-first.invariant.few, ap length c.loop-first.invariant.same_ends)) l

pub returns-clause-halves : goal.returns-clause-halves
returns-clause-halves g c =
    let i = c.loop-first.invariant in
    twice _ _ _ (omega arith) (subst (λ n. n < 2 ^ g.E.Ends.probed c.loop-first.ends * (c.loop-first.last - c.loop-first.first + 2))
    (ap length i.same_ends) i.halves)
