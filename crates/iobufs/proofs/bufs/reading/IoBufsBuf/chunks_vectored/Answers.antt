use Rattle.iobufs.proofs.Text.{ap, arith, chunks-kept, full-kept, length-kept, none-shown, some_views, sym, take, ◌∙◌}
use Rattle.iobufs.proofs.bufs.reading.IoBufsBuf.chunks_vectored.Goals as goal

pub returns-clause-ok : goal.returns-clause-ok
returns-clause-ok c =
    let full = full-kept c.self.inside _ c.self.view_is c.in_ok-chunks.ensures.pieces
    (omega (arith, length-kept c.self.inside _ c.self.view_is)) in
    c.in_ok-chunks.ensures.ok ∙ ap (take c.args.max)
    (sym (chunks-kept _ _ c.self.view_is (some_views _ c.in_ok-chunks.ensures.pieces) full))

pub returns-then-len-eq0-clause-ok : goal.returns-then-len-eq0-clause-ok
returns-then-len-eq0-clause-ok c = none-shown (λ x. x.now) _ _ _ c.new.ensures.items (omega arith)
