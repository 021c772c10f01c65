-- The fields of a text: what its chunks say of its marked text, and that they stay kept (`IsKept`) where a call adds a chunk or leaves a
-- side.
use Rattle.iobufs.proofs.Text.Known.{AreFull, Inside, IsPieces, List, MarkedText, Option, View, [], ap, arith, chunk_count, false, is_single, length, map, nat_eq, of_pieces, option_map, pieces_bytes, refl, right_pieces, slice_get, suc, sym, tests, text_advanced, text_append, text_chunks, text_len, text_of, text_prepend, text_rest, view_advanced, view_len, zero, ℕ, ◌++◌, ◌<◌, ◌∙◌, ◌∷◌, ◌≡◌, ◌≤◌}
use Rattle.iobufs.proofs.Text.ChunkLaws.{chunks-of_pieces}
use Rattle.iobufs.proofs.Text.JoinLaws.{append-push, prepend-cons}
use Rattle.iobufs.proofs.Text.PieceLaws.{AreFull-from_pieces, advanced-of_view, bytes-of_pieces, cuts-of_pieces, is_single-of_pieces, len-of_pieces, of_pieces-one, rest-of_pieces}
use Rattle.iobufs.proofs.Text.Sides.{not_zero}

-- there is at least one chunk
pub some_views : (vs : List View) → IsPieces vs → 0 < length vs
some_views [] h = absurd h
some_views (v ∷ vs) h = omega arith

-- the bytes of the chunks are those of their text
pub bytes-kept : (s : Inside) (t : MarkedText) → text_of s ≡ t → pieces_bytes s.pieces ≡ t.bytes
bytes-kept s t e = sym (bytes-of_pieces s.pieces) ∙ ap (λ (x : MarkedText). x.bytes) e

-- the chunks have as many bytes as their text
pub length-kept : (s : Inside) (t : MarkedText) → text_of s ≡ t → length (pieces_bytes s.pieces) ≡ text_len t
length-kept s t e = ap length (bytes-kept s t e)

-- the chunks of a kept text that has bytes
pub full-kept : (s : Inside) (t : MarkedText) → text_of s ≡ t → IsPieces s.pieces → 0 < text_len t → AreFull s.pieces
full-kept s t e k p = AreFull-from_pieces s.pieces k (omega (arith, length-kept s t e))

-- one chunk, or several
not_one : (n : ℕ) → 1 < n → nat_eq n 1 ≡ false
not_one n l = grind (arith, tests)

pub single-of : (vs : List View) (t : MarkedText) → of_pieces vs ≡ t → 0 < length vs → is_single t ≡ nat_eq (length vs) 1
single-of [] t e l = absurd (omega arith)
single-of (v ∷ []) t e l = sym (ap is_single e) ∙ is_single-of_pieces v []
single-of (v ∷ w ∷ vs) t e l = cc (
  is_single-of_pieces v (w ∷ vs),
  not_zero (length (w ∷ vs)) (omega arith),
  not_one (length (v ∷ w ∷ vs)) (omega arith),
)

-- the text of kept chunks is single exactly where there is one
pub single-kept : (s : Inside) (t : MarkedText) → text_of s ≡ t → IsPieces s.pieces → is_single t ≡ nat_eq (length s.pieces) 1
single-kept s t e k = single-of s.pieces t e (some_views s.pieces k)

-- the text of more than one chunk isn't single
pub single-more : (vs : List View) (t : MarkedText) → of_pieces vs ≡ t → 1 < length vs → is_single t ≡ false
single-more [] t e l = absurd (omega arith)
single-more (v ∷ []) t e l = absurd (omega arith)
single-more (v ∷ w ∷ vs) t e l = sym (ap is_single e) ∙ is_single-of_pieces v (w ∷ vs) ∙ not_zero (length (w ∷ vs)) (omega arith)

-- a text with bytes has as many chunks as chunks
pub count-pieces : (vs : List View) (t : MarkedText) → of_pieces vs ≡ t → 0 < length (pieces_bytes vs) → length vs ≡ chunk_count t
count-pieces [] t e l = absurd (omega arith)
count-pieces (v ∷ vs) t e l =
    let n : length t.cuts ≡ length vs = ap (λ (x : MarkedText). length x.cuts) (sym e) ∙ cuts-of_pieces v vs in
    rw (not_zero (text_len t) (rw (sym (ap text_len e) ∙ len-of_pieces (v ∷ vs)) l)) (omega arith)

-- where no chunk is empty, the chunks of their text are the bytes of each
pub chunks-kept : (vs : List View) (t : MarkedText) → of_pieces vs ≡ t → 0 < length vs → AreFull vs
    → text_chunks t ≡ map (λ (v : View). v.bytes) vs
chunks-kept [] t e l f = absurd (omega arith)
chunks-kept (v ∷ vs) t e l f = sym (ap text_chunks e) ∙ chunks-of_pieces v vs f

-- after and at the front
pub append-pieces : (vs : List View) (w : View) (t : MarkedText) → of_pieces vs ≡ t → 0 < text_len t → 0 < view_len w
    → of_pieces (vs ++ w ∷ []) ≡ text_append t w
append-pieces [] w t e p q = let s = len-of_pieces [] in let z : text_len (of_pieces []) ≡ text_len t = ap text_len e in absurd
    (omega arith)
append-pieces (v ∷ vs) w t e p q =
    sym (append-push v vs w (omega (arith, ap text_len e, len-of_pieces (v ∷ vs))) q) ∙ ap (λ (x : MarkedText). text_append x w) e

-- a chunk with bytes before those of a text with bytes makes the text with it prepended
pub prepend-pieces : (vs : List View) (w : View) (t : MarkedText) → of_pieces vs ≡ t → 0 < text_len t → 0 < view_len w
    → of_pieces (w ∷ vs) ≡ text_prepend t w
prepend-pieces [] w t e p q = let s = len-of_pieces [] in let z : text_len (of_pieces []) ≡ text_len t = ap text_len e in absurd
    (omega arith)
prepend-pieces (v ∷ vs) w t e p q =
    sym (prepend-cons w v vs (omega (arith, ap text_len e, len-of_pieces (v ∷ vs))) q) ∙ ap (λ (x : MarkedText). text_prepend x w) e

-- the chunks from a place inside on make what a split there leaves
pub rest-kept : (vs ws : List View) (t : MarkedText) (at : ℕ) → of_pieces vs ≡ t → 0 < at → at < length (pieces_bytes vs)
    → ws ≡ right_pieces vs at
    → of_pieces ws ≡ text_rest t at
rest-kept vs ws t at e p l is = ap of_pieces is ∙ sym (rest-of_pieces at vs p l) ∙ ap (λ (x : MarkedText). text_rest x at) e

-- `advance` on a single chunk leaves the view of the chunk, advanced
pub advanced-one : (v : View) (t : MarkedText) (n : ℕ) → of_pieces (v ∷ []) ≡ t → n ≤ view_len v
    → of_pieces (view_advanced v n ∷ []) ≡ text_advanced t n
advanced-one v t n e l = cc (of_pieces-one (view_advanced v n), advanced-of_view n v l, of_pieces-one v)

slice_get-map : {A B : Type 0} (f : A → B) (xs : List A) (i : ℕ) → slice_get (map f xs) i ≡ option_map f (slice_get xs i)
slice_get-map f [] i = refl
slice_get-map f (x ∷ xs) zero = refl
slice_get-map f (x ∷ xs) (suc i) = slice_get-map f xs i

-- the chunk of a chunk
pub chunk-at : (vs : List View) (t : MarkedText) (i : ℕ) (piece : Option View) → of_pieces vs ≡ t → 0 < length vs → AreFull vs
    → piece ≡ slice_get vs i → option_map (λ (v : View). v.bytes) piece ≡ slice_get (text_chunks t) i
chunk-at vs t i piece e l f g = cc (slice_get-map (λ (v : View). v.bytes) vs i, chunks-kept vs t e l f)
