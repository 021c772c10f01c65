use Rattle.iobufs.proofs.Text.{AreFull, AreViews, List, MarkedText, View, [], ap, arith, fold, length, length-append, map, not_zero, of_pieces, of_pieces-one, part_capacity, part_frozen, parts_capacity, pieces_bytes, subst, sum_by-cons, sym, text_append, ◌++◌, ◌∙◌, ◌∷◌, ◌≡◌}
use Rattle.iobufs.proofs.Building.{add-full, add-length, add-text, add-views}
use Rattle.iobufs.proofs.Parts.{frozen-len}
use Rattle.iobufs.proofs.bufs_mut.several.freeze_behind.Goals as goal

pub loop-part-init : goal.loop-part-init
loop-part-init c =
    let first = c.args.first in
    let views : c.add.new.self.views ≡ first ∷ [] = c.add.ensures.added
    ∙ rw (not_zero (length first.bytes) c.requires.some) (ap (λ (vs : List View). vs ++ first ∷ []) c.in_ok-row.ensures.views) in
    let bytes = ap (λ (vs : List View). length (pieces_bytes vs)) views in
    let count = ap (λ (vs : List View). length vs) views in
    record {
      so_far = ap (λ (text : MarkedText). fold text_append text (map part_frozen c.args.parts.items))
          (ap of_pieces views ∙ of_pieces-one first);
      fits = omega (arith, bytes, length-append first.bytes [], c.requires.fits);
      room = omega (arith, count, c.add.ensures.same_room, c.in_ok-row.ensures.room, c.len.ensures);
      full = subst AreFull (sym views) (c.requires.some, tt);
      roomy = subst AreViews (sym views) (c.add.ensures.view, tt);
      some = omega (arith, count);
    }

pub loop-part-preserved : goal.loop-part-preserved
loop-part-preserved c =
    let l = c.loop-part in
    let inv = l.invariant in
    let part = c.in-Some.part in
    let rest = c.pop_front.new.self.items in
    let items = c.in-Some.ensures.items in
    let piece = c.in_ok-freeze.field-0 in
    let frozen = c.in_ok-freeze.ensures.ok in
    let views = c.add-in-Some.new.self.views in
    let added = c.add-in-Some.ensures.added in
    let more = add-length l.row.views views piece added in
    let len = ap (λ (v : View). length v.bytes) frozen in
    record {
      so_far = ap (λ (text : MarkedText). fold text_append text (map part_frozen rest))
          (add-text l.row.views views piece added inv.full ∙ ap (text_append (of_pieces l.row.views)) frozen)
          ∙ ap (λ parts. fold text_append (of_pieces l.row.views) (map part_frozen parts)) (sym items) ∙ inv.so_far;
      fits = omega (arith, inv.fits, more.bytes, len, ap parts_capacity items, sum_by-cons part_capacity part rest, frozen-len part);
      room = omega (arith, inv.room, more.at_most, ap length items, c.add-in-Some.ensures.same_room);
      full = add-full l.row.views views piece added inv.full;
      roomy = add-views l.row.views views piece added inv.roomy c.add-in-Some.ensures.view;
      some = omega (arith, inv.some, more.at_least);
    }
