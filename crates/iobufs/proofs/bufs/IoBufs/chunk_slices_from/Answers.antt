use Rattle.std.proofs.lemmas.List.{drop_all}
use Rattle.iobufs.proofs.Text.{Inside, List, View, [], ap, append-nil, arith, chunks-kept, chunks-of_empty, drop, length, length-kept, of_pieces, pieced-as, pieces_bytes, sym, views, ◌∙◌, ◌∷◌, ◌≡◌}
use Rattle.iobufs.proofs.bufs.IoBufs.chunk_slices_from.Goals as goal

pub returns-then-len-eq0 : goal.returns-then-len-eq0
returns-then-len-eq0 c =
    let len = length-kept c.self.inside _ c.self.view_is in
    let one = ap (λ (vs : List View). length (pieces_bytes vs))
    (ap views (sym c.in-One.is) ∙ ap (λ (s : Inside). s.pieces) c.self-inside.view_is) in
    let bytes = ap length (append-nil c.in-One.piece.bytes) in
    let none = chunks-of_empty c.args.self.now (omega (arith, c.len.ensures.value)) in
    rw (c.none.ensures, c.none-then-len-eq0.ensures, none) (sym (drop_all c.args.first [] (omega arith)))

pub returns-then-first-gt0 : goal.returns-then-first-gt0
returns-then-first-gt0 c =
    let seen : c.in-One.piece ∷ [] ≡ c.self.inside.pieces = ap views (sym c.in-One.is)
    ∙ ap (λ (s : Inside). s.pieces) c.self-inside.view_is in
    let one = chunks-kept (c.in-One.piece ∷ []) _ (ap of_pieces seen ∙ c.self.view_is) (omega arith)
    (omega (arith, c.len.ensures.value), tt) in
    rw (c.none-then-first-gt0.ensures, c.none-then-first-gt0-2.ensures, one)
    (sym (drop_all c.args.first (c.in-One.piece.bytes ∷ []) (omega arith)))

pub returns-else-first-gt0 : goal.returns-else-first-gt0
returns-else-first-gt0 c =
    let seen : c.in-One.piece ∷ [] ≡ c.self.inside.pieces = ap views (sym c.in-One.is)
    ∙ ap (λ (s : Inside). s.pieces) c.self-inside.view_is in
    let one = chunks-kept (c.in-One.piece ∷ []) _ (ap of_pieces seen ∙ c.self.view_is) (omega arith)
    (omega (arith, c.len.ensures.value), tt) in
    let start : c.args.first ≡ 0 = omega (arith, c.if-first-gt0.false) in
    rw (c.one.ensures, c.none-in-One.ensures, c.as_ref.ensures, start) (sym one)

pub returns-in-Many : goal.returns-in-Many
returns-in-Many c =
    let seen : c.in-Many.row.views ≡ c.self.inside.pieces = ap views (sym c.in-Many.is)
    ∙ ap (λ (s : Inside). s.pieces) c.self-inside.view_is in
    let several = pieced-as c.in-Many.is c.self-inside.invariant in
    let chunks = chunks-kept c.in-Many.row.views _ (ap of_pieces seen ∙ c.self.view_is) (omega (arith, several.0)) several.1 in
    c.chunk_slices_from.ensures ∙ ap (drop c.args.first) (sym chunks)
