use Rattle.iobufs.proofs.Text.{AreFull, Entry, View, ViewRow, ap, arith, first-right, left_pieces, left_pieces-first, length, piece_at, row-shorten, rules, shortened, slice_set, subst, sym, view_len, ◌∙◌, ◌≡◌}
use Rattle.iobufs.proofs.bufs.row.Row.split_first.Goals as goal

pub returns-then-at-len-clause-answer : goal.returns-then-at-len-clause-answer
returns-then-at-len-clause-answer c =
    let first = ap (λ (vs : _). view_len (piece_at vs 0)) c.pop_front.ensures in
    let len = ap (λ (v : View). length v.bytes) c.piece.ensures in
    sym (ap (λ xs. left_pieces xs c.args.at) c.pop_front.ensures
    ∙ left_pieces-first c.args.at c.pop_front.result _ c.requires.some (omega arith))

pub returns-then-at-len-clause-left : goal.returns-then-at-len-clause-left
returns-then-at-len-clause-left c =
    let first = ap (λ (vs : _). view_len (piece_at vs 0)) c.pop_front.ensures in
    let len = ap (λ (v : View). length v.bytes) c.piece.ensures in
    let full = subst (λ (r : ViewRow). AreFull r.views) c.self.view_is c.self.invariant.full in
    first-right _ _ c.pop_front.result c.args.at c.pop_front.ensures full (omega arith)

pub invariant_of-self-2 : goal.invariant_of-self-2
invariant_of-self-2 c =
    let n = ap (λ (r : ViewRow). view_len (piece_at r.views 0)) c.self.view_is in
    let len = ap (λ (v : View). length v.bytes) c.piece.ensures in
    let items = c.self.inside.entries.items in
    let first : Entry = record { view = c.split_to.new.self; end = c.in-Some.first.now.end } in
    let cut : slice_set items 0 first ≡ shortened items c.args.at = search rules in
    row-shorten c.self.inside.base c.args.at _ _ c.self.invariant (omega (arith, c.requires.inside)) cut
