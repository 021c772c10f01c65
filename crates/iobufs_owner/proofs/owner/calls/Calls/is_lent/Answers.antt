use Rattle.iobufs_owner.proofs.Base.{◌∙◌, sym, get_or_past, le-ltb, arith}
use Rattle.std.proofs.lemmas.List.{get_or_read_under}
use Rattle.iobufs_owner.proofs.Borrowers.{lent-counted}
use Rattle.iobufs_owner.proofs.owner.calls.Calls.is_lent.Goals as goal

pub returns-then-h-len : goal.returns-then-h-len
returns-then-h-len c =
    let bs = c.self.inside.borrowers.items in
    rw (← c.self.view_is) (lent-counted bs _ c.args.h _ c.self.invariant
    (get_or_read_under bs c.args.h c.len.result _ 0 c.index.ensures c.if-h-len.true
    (omega (arith, c.len.ensures))))

pub returns-else-h-len : goal.returns-else-h-len
returns-else-h-len c =
    let bs = c.self.inside.borrowers.items in
    rw (← c.self.view_is) (le-ltb _ _ c.if-h-len.false
    ∙ lent-counted bs _ c.args.h 0 c.self.invariant (sym (get_or_past bs c.args.h 0 (omega (arith, c.if-h-len.false, c.len.ensures)))))
