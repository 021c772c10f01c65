use Rattle.iobufs.proofs.Text.{View, ap, arith, default_text, length, length-append, part_frozen, parts_filled, parts_frozen, sym, text_append, ◌∙◌, ◌≡◌}
use Rattle.iobufs.proofs.Building.{frozen-bytes}
use Rattle.iobufs.proofs.Parts.{capacity-order, filled-order, frozen-none, frozen-one, frozen-order}
use Rattle.iobufs.proofs.bufs_mut.several.Several.freeze.Goals as goal

pub loop-part-init : goal.loop-part-init
loop-part-init c =
    let s = c.self.inside in
    let behind = c.self.invariant.behind in
    record {
      so_far = frozen-order s.row.items s.used behind ∙ ap parts_frozen c.self.view_is;
      fits = omega (arith, capacity-order s.row.items s.used, c.self.invariant.parts.fits);
      bytes = ap length (filled-order s.row.items s.used behind) ∙ sym c.self.invariant.sums.len_is;
    }

-- where a part holds all bytes, those after it hold none
pub returns-then-len-clause-ok : goal.returns-then-len-clause-ok
returns-then-len-clause-ok c =
    let l = c.loop-part in
    let part = c.in-Some.part in
    let rest = c.pop_front.new.self.items in
    let items = c.in-Some.ensures.items in
    let frozen = c.in_ok-piece.ensures.ok in
    let bytes = ap (λ parts. length (parts_filled parts)) items in
    let len = ap (λ (v : View). length v.bytes) frozen ∙ ap length (frozen-bytes part) in
    let none : length (parts_filled rest) ≡ 0 =
    omega (arith, bytes, len, length-append part.filled (parts_filled rest), l.invariant.bytes, c.len.ensures.value, c.if-len.true) in
    cc (c.from.ensures, frozen-none (text_append default_text (part_frozen part)) rest none ∙ frozen-one part, l.invariant.so_far)
