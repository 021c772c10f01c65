-- A view with bytes that is appended or prepended to a text is one chunk more.
use Rattle.iobufs.proofs.Text.Known.{List, MarkedText, View, [], arith, default_text, fold-append, joined, length, of_pieces, of_view, pieces_bytes, text_append, text_glue, text_len, text_prepend, view_len, ◌++◌, ◌<◌, ◌∷◌, ◌≡◌}
use Rattle.iobufs.proofs.Text.PieceLaws.{len-of_pieces, of_pieces-append, of_pieces-cons, of_pieces-one}
use Rattle.iobufs.proofs.Text.Sides.{not_zero}

append-both : (t : MarkedText) (v : View) → 0 < text_len t → 0 < view_len v → text_append t v ≡ text_glue t (of_view v)
append-both t v p q = rw (not_zero (view_len v) q, not_zero (text_len t) p)

prepend-both : (t : MarkedText) (v : View) → 0 < text_len t → 0 < view_len v → text_prepend t v ≡ text_glue (of_view v) t
prepend-both t v p q = rw (not_zero (view_len v) q, not_zero (text_len t) p)

-- a view that has bytes, after and before chunks that have some
pub append-push : (v : View) (vs : List View) (w : View) → 0 < length (pieces_bytes (v ∷ vs)) → 0 < view_len w
    → text_append (of_pieces (v ∷ vs)) w ≡ of_pieces ((v ∷ vs) ++ w ∷ [])
append-push v vs w p q =
    rw (of_pieces-append v w vs [], of_pieces-one w) (append-both _ _ (omega (arith, len-of_pieces (v ∷ vs))) q)

-- a view with bytes prepended to the text of chunks with bytes is one chunk more at the front
pub prepend-cons : (v : View) (w : View) (vs : List View) → 0 < length (pieces_bytes (w ∷ vs)) → 0 < view_len v
    → text_prepend (of_pieces (w ∷ vs)) v ≡ of_pieces (v ∷ w ∷ vs)
prepend-cons v w vs p q =
    rw (of_pieces-cons v w vs) (prepend-both _ _ (omega (arith, len-of_pieces (w ∷ vs))) q)

-- one more buffer after those joined so far
pub joined-push : (vs : List View) (v : View) → joined (vs ++ v ∷ []) ≡ text_append (joined vs) v
joined-push vs v = fold-append text_append default_text vs (v ∷ [])
