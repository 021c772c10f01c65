use Rattle.iobufs.proofs.Text.{List, ap, arith, chunk_count, chunks-of_empty, count-pieces, length, length-kept, length-text_chunks, nat_tests, sym, ℕ, ◌+◌, ◌∙◌, ◌≡◌}
use Rattle.iobufs.proofs.bufs.IoBufs.chunk_count.Goals as goal

pub returns-then-len-eq0-clause-chunks : goal.returns-then-len-eq0-clause-chunks
returns-then-len-eq0-clause-chunks c =
    sym (ap (λ (xs : List (List ℕ)). length xs) (chunks-of_empty c.args.self.now (omega arith)))

pub returns-clause-keys : goal.returns-clause-keys
returns-clause-keys c =
    c.count.ensures.value ∙ count-pieces _ _ c.self.view_is (omega (arith, length-kept c.self.inside _ c.self.view_is))

pub returns-clause-chunks : goal.returns-clause-chunks
returns-clause-chunks c =
    let text = c.args.self.now in
    let n = length-kept c.self.inside _ c.self.view_is in
    let value = c.len.ensures.value in
    let counted : chunk_count text ≡ length text.cuts + 1 = grind (arith, nat_tests) in
    (c.count.ensures.value ∙ count-pieces _ _ c.self.view_is (omega (arith))) ∙ counted
    ∙ sym (length-text_chunks text c.len.ensures.marked (omega arith))
