use Rattle.iobufs.proofs.Text.{AreSegments, List, Entry, SegmentRow, View, [], ap, arith, drop, drop_all, filled, gaps_len, length, length-map, refl, rules, segment_of, stood_len, subst, sym, take, take_all, views_in, ℕ, ◌+◌, ◌<◌, ◌^◌, ◌∙◌, ◌≡◌, ◌≤◌}
use Rattle.iobufs.proofs.Building.{IsFilling, add-full, add-views, filled-last, filling-first, filling-none, filling-set}
use Rattle.iobufs.proofs.bufs.row.gaps.Gapped.fill.Goals as goal

pub loop-i-init : goal.loop-i-init
loop-i-init c =
    let is = ap (λ (g : SegmentRow). g.segments) c.self.view_is in
    record {
      count = refl;
      room = refl;
      left = omega arith;
      filling = filling-none c.self.inside.entries.items c.args.rest
          (subst AreSegments (sym is) c.requires.segments)
          (subst (λ segments. gaps_len segments ≤ length c.args.rest.bytes) (sym is) c.requires.within)
          (subst (λ segments. stood_len segments + length c.args.rest.bytes < 2 ^ 64) (sym is) c.requires.fits);
    }

pub unreachable-requires : goal.unreachable-requires
unreachable-requires c =
    let some = c.in_default.ensures.variant.1 (omega
    (arith, c.loop-i-test.true, c.loop-i.invariant.count, c.len-i-end.ensures)) in search rules

pub fill_piece-requires-clause-within : goal.fill_piece-requires-clause-within
fill_piece-requires-clause-within c =
    let l = c.loop-i in
    (filling-first _ l.entries.items l.i c.in-Some.piece.now l.rest l.end
    (omega (
      arith,
      c.loop-i-test.true,
      l.invariant.count,
      c.len-i-end.ensures,
      l.entries.ok.0,
    )) c.in-Some.ensures.value l.invariant.filling).0

pub fill_piece-requires-clause-fits : goal.fill_piece-requires-clause-fits
fill_piece-requires-clause-fits c =
    let l = c.loop-i in
    (filling-first _ l.entries.items l.i c.in-Some.piece.now l.rest l.end
    (omega (
      arith,
      c.loop-i-test.true,
      l.invariant.count,
      c.len-i-end.ensures,
      l.entries.ok.0,
    )) c.in-Some.ensures.value l.invariant.filling).1

pub loop-i-preserved : goal.loop-i-preserved
loop-i-preserved c =
    let l = c.loop-i in
    let done = c.in_ok-end.ensures in
    record {
      count = l.invariant.count;
      room = l.invariant.room;
      left = omega (arith, l.invariant.left, done.left);
      filling = filling-set _ l.entries.items l.i c.in-Some.piece.now c.fill_piece.new.piece l.rest c.fill_piece.new.rest l.end
          c.in_ok-end.end
          (omega (arith, c.loop-i-test.true, l.invariant.count, c.len-i-end.ensures, l.entries.ok.0))
          c.in-Some.ensures.value l.invariant.filling
          done.filled done.len done.left done.end.0 done.end.1 done.roomy;
    }

-- after the last chunk all are done, and none waits
filling-all : (all : List View) (ps : List Entry) (i count n : ℕ) (rest : View) (end : ℕ) → count ≤ i → count ≡ n → n ≡ length ps
    → IsFilling all (take i ps) (drop i ps) rest end → IsFilling all ps [] rest end
filling-all all ps i count n rest end last same size fill =
    let past : length ps ≤ i = omega arith in
    subst (λ (qs : List Entry). IsFilling all ps qs rest end) (drop_all i ps past)
    (subst (λ (qs : List Entry). IsFilling all qs (drop i ps) rest end) (take_all i ps past) fill)

pub invariant_of-row : goal.invariant_of-row
invariant_of-row c =
    let l = c.loop-i in
    (filling-all _ l.entries.items l.i _ _ _ _ c.loop-i-test.false
    (c.len-i-end.ensures ∙ sym l.invariant.count) l.entries.ok.0 l.invariant.filling).row

pub add-requires-clause-fits : goal.add-requires-clause-fits
add-requires-clause-fits c =
    let l = c.loop-i in
    let last = filling-all _ l.entries.items l.i _ _ _ _ c.loop-i-test.false
    (c.len-i-end.ensures ∙ sym l.invariant.count) l.entries.ok.0 l.invariant.filling in
    omega (arith, last.ends, last.fits)

pub add-requires-clause-room : goal.add-requires-clause-room
add-requires-clause-room c =
    let l = c.loop-i in
    let views = length-map l.entries.items (λ (p : Entry). p.view) in
    let segments = sym (length-map c.self.inside.entries.items segment_of) ∙ ap (λ (g : SegmentRow). length g.segments) c.self.view_is in
    let room = ap (λ (g : SegmentRow). g.room) c.self.view_is in
    omega (arith, c.requires.room, l.invariant.count, l.invariant.room, l.entries.ok.0, c.self.inside.entries.ok.0)

pub returns-clause-filled : goal.returns-clause-filled
returns-clause-filled c =
    let l = c.loop-i in
    let last = filling-all _ l.entries.items l.i _ _ _ _ c.loop-i-test.false
    (c.len-i-end.ensures ∙ sym l.invariant.count) l.entries.ok.0 l.invariant.filling in
    filled-last _ (views_in l.entries.items) c.add.new.self.views l.rest last.so_far c.add.ensures.added
    ∙ ap (λ (g : SegmentRow). filled c.args.rest g.segments) c.self.view_is

pub returns-clause-full : goal.returns-clause-full
returns-clause-full c =
    let l = c.loop-i in
    let last = filling-all _ l.entries.items l.i _ _ _ _ c.loop-i-test.false
    (c.len-i-end.ensures ∙ sym l.invariant.count) l.entries.ok.0 l.invariant.filling in
    add-full (views_in l.entries.items) c.add.new.self.views l.rest c.add.ensures.added last.row.full

pub returns-clause-roomy : goal.returns-clause-roomy
returns-clause-roomy c =
    let l = c.loop-i in
    let last = filling-all _ l.entries.items l.i _ _ _ _ c.loop-i-test.false
    (c.len-i-end.ensures ∙ sym l.invariant.count) l.entries.ok.0 l.invariant.filling in
    add-views (views_in l.entries.items) c.add.new.self.views l.rest c.add.ensures.added last.roomy c.add.ensures.view
