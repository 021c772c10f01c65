use Rattle.iobufs.proofs.Text.{Inside, List, View, ap, arith, bytes-several, length, length-bytes, length-kept, nat_eq, not_zero, pieced-as, pieces_bytes, sym, views, [], ◌∙◌}
use Rattle.iobufs.proofs.bufs.IoBufs.is_empty.Goals as goal

pub returns-in-One : goal.returns-in-One
returns-in-One c =
    let one = ap (λ (vs : List View). length (pieces_bytes vs))
    (ap views (sym c.in-One.is) ∙ ap (λ (s : Inside). s.pieces) c.self-inside.view_is) in
    c.is_empty.ensures ∙ ap (λ n. nat_eq n 0) (omega
    (arith, one, length-kept c.self.inside _ c.self.view_is, length-bytes c.in-One.piece []))

pub returns-in-Many : goal.returns-in-Many
returns-in-Many c =
    let row = c.in-Many.field-0 in
    let seen = ap (λ (vs : List View). length (pieces_bytes vs))
    (ap views (sym c.in-Many.is) ∙ ap (λ (s : Inside). s.pieces) c.self-inside.view_is) in
    let several = pieced-as c.in-Many.is c.self-inside.invariant in
    sym (not_zero _ (omega (arith, seen, length-kept c.self.inside _ c.self.view_is, bytes-several row.views several.0 several.1)))
