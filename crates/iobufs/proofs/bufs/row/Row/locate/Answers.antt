use Rattle.iobufs.proofs.Text.{IsChunkPlace, Entry, ViewRow, ap, arith, ends-fit, from_base, length, length-map, piece_start, pieces_bytes, place-first, row-search, subst, sym, ◌-◌, ◌∙◌}
use Rattle.iobufs.proofs.bufs.row.Row.locate.Goals as goal

pub invariant_of-ends : goal.invariant_of-ends
invariant_of-ends c =
    row-search c.self.inside.base c.args.at _ c.self.invariant
    (omega (arith, ap (λ (r : ViewRow). length (pieces_bytes r.views)) c.self.view_is, c.requires))

pub start-requires : goal.start-requires
start-requires c =
    let row = c.self.inside.entries.items in
    let views = ap (λ (r : ViewRow). length r.views) c.self.view_is in
    omega (
      arith,
      c.find_end-index.ensures.found.inside,
      length-map row (λ (p : Entry). p.view),
      length-map row (λ (p : Entry). from_base c.self.inside.base p.end),
    )

pub overflow_sub-result : goal.overflow_sub-result
overflow_sub-result c =
    (place-first c.self.inside.base c.self.inside.entries.items c.args.at c.find_end-index.result c.start.result c.self.invariant.ended
    c.find_end-index.ensures.found (c.start.ensures
    ∙ sym (ap (λ (r : ViewRow). piece_start r.views c.find_end-index.result) c.self.view_is))).0

pub returns-clause-place : goal.returns-clause-place
returns-clause-place c =
    subst (λ (r : ViewRow). IsChunkPlace r.views c.args.at c.find_end-index.result (c.args.at - c.start.result)) c.self.view_is
    (place-first c.self.inside.base c.self.inside.entries.items c.args.at c.find_end-index.result c.start.result c.self.invariant.ended
    c.find_end-index.ensures.found (c.start.ensures
    ∙ sym (ap (λ (r : ViewRow). piece_start r.views c.find_end-index.result) c.self.view_is))).1

pub returns-clause-fits : goal.returns-clause-fits
returns-clause-fits c =
    let n = ap (λ (r : ViewRow). length (pieces_bytes r.views)) c.self.view_is in
    omega (arith, ends-fit c.self.inside.base 0 c.self.inside.entries.items (omega arith) c.self.invariant.ended)
