-- The bytes of views joined in order.
--     bytes-append, bytes-joined, length-joined    bytes are concatenated, and their number is the sum
use Rattle.iobufs.proofs.Text.Known.{List, MarkedText, View, [], ap, append-nil, append_assoc, arith, common_steps, default_text, fold, joined, length, nat_tests, nil_from_length, pieces_bytes, sym, text_append, text_glue, text_len, ◌++◌, ◌∙◌, ◌∷◌, ◌≡◌}

-- an appended view's bytes come last
pub bytes-append : (t : MarkedText) (v : View) → (text_append t v).bytes ≡ t.bytes ++ v.bytes
unfolding text_glue
bytes-append t v = grind (arith, nat_tests, common_steps, append-nil, nil_from_length)

bytes-fold : (t : MarkedText) (vs : List View) → (fold text_append t vs).bytes ≡ t.bytes ++ pieces_bytes vs
bytes-fold t [] = sym (append-nil t.bytes)
bytes-fold t (v ∷ vs) = bytes-fold (text_append t v) vs ∙ ap (λ w. w ++ pieces_bytes vs) (bytes-append t v)
    ∙ append_assoc t.bytes v.bytes (pieces_bytes vs)

-- joined views have their bytes, in order
pub bytes-joined : (vs : List View) → (joined vs).bytes ≡ pieces_bytes vs
bytes-joined vs = bytes-fold default_text vs

-- the length of joined views
pub length-joined : (views : List View) (t : MarkedText) → t ≡ joined views → text_len t ≡ length (pieces_bytes views)
length-joined views t e = ap text_len e ∙ ap length (bytes-joined views)
