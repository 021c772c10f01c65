use Rattle.iobufs.proofs.Text.{List, None, Some, ap, arith, chunk-at, chunks-of_empty, full-kept, length-kept, slice_get, some_views, sym, ℕ, ◌∙◌}
use Rattle.iobufs.proofs.bufs.IoBufs.chunk_at.Goals as goal

pub returns-in-Some : goal.returns-in-Some
returns-in-Some c =
    ap Some c.as_ref.ensures
    ∙ chunk-at _ _ c.args.i (Some c.in-Some.piece.now) c.self.view_is (some_views _ c.get.ensures.pieces)
    (full-kept c.self.inside _ c.self.view_is c.get.ensures.pieces
    (omega (arith, length-kept c.self.inside _ c.self.view_is))) c.in-Some.ensures.value

pub returns-in-None : goal.returns-in-None
returns-in-None c =
    chunk-at _ _ c.args.i None c.self.view_is (some_views _ c.get.ensures.pieces)
    (full-kept c.self.inside _ c.self.view_is c.get.ensures.pieces
    (omega (arith, length-kept c.self.inside _ c.self.view_is))) c.in-None.ensures.value

pub returns-then-len-eq0 : goal.returns-then-len-eq0
returns-then-len-eq0 c = sym (ap (λ (xs : List (List ℕ)). slice_get xs c.args.i) (chunks-of_empty _ (omega arith)))
