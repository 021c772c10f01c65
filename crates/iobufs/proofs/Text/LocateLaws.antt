-- A place among the keys of a text.
use Rattle.iobufs.proofs.Text.Known.{IsChunkPlace, List, Mark, MarkedText, View, [], ap, arith, filter, greatest_key, key_upto, keys_upto, le-leb, length, length-append, lt-leb, map, moved_up, nat_le, of_pieces, piece_at, piece_start, pieces_bytes, refl, suc, sym, take, text_glue, view_len, zero, ℕ, ◌+◌, ◌-◌, ◌<◌, ◌∙◌, ◌∷◌, ◌≡◌, ◌≤◌}
use Rattle.iobufs.proofs.Text.Sides.{FromOn, both, le_up, upto_none, upto_up}
use Rattle.iobufs.proofs.Text.TakenLaws.{from_on-of_pieces}

-- the number of cuts at an offset or before it
abbrev cuts_upto : List (ℕ × Mark) → ℕ → ℕ
cuts_upto cuts at = length (filter (λ key. nat_le key at) (map (λ (cut : ℕ × Mark). cut.0) cuts))

cuts-none : (at n : ℕ) (cuts : List (ℕ × Mark)) → FromOn n cuts → at < n → cuts_upto cuts at ≡ 0
cuts-none at n [] h l = refl
cuts-none at n (cut ∷ cuts) h l = rw (lt-leb cut.0 at (omega (arith, h.0))) (cuts-none at n cuts h.1 l)

cuts-up : (at n : ℕ) (cuts : List (ℕ × Mark)) → n ≤ at → cuts_upto (map (moved_up n) cuts) at ≡ cuts_upto cuts (at - n)
cuts-up at n [] l = refl
cuts-up at n (cut ∷ cuts) l =
    rw (le_up at n cut.0 l) (both length length (nat_le cut.0 (at - n)) _ _ _ _ (ap suc (cuts-up at n cuts l)) (cuts-up at n cuts l))

keys-count : (t : MarkedText) (at : ℕ) → keys_upto t at ≡ 1 + cuts_upto t.cuts at
keys-count t at = rw (le-leb 0 at (omega arith)) (omega arith)

keys-past : (v w : View) (vs : List View) (at : ℕ) → view_len v ≤ at
    → cuts_upto (of_pieces (v ∷ w ∷ vs)).cuts at ≡ 1 + cuts_upto (of_pieces (w ∷ vs)).cuts (at - view_len v)
unfolding of_pieces text_glue
keys-past v w vs at l = rw (le-leb (view_len v) at l) (ap suc (cuts-up at (view_len v) (of_pieces (w ∷ vs)).cuts l) ∙ (omega arith))

greatest-within : (v w : View) (vs : List View) (at : ℕ) → at < view_len v → greatest_key (of_pieces (v ∷ w ∷ vs)) at ≡ 0
greatest-within v w vs at l =
    let t = of_pieces (v ∷ w ∷ vs) in
    ap (λ (key : ℕ × Mark). key.0) (upto_none at (view_len v) (0, t.mark) t.cuts (from_on-of_pieces v (w ∷ vs)) l)

greatest-cons : (n at : ℕ) (m k : Mark) (cuts : List (ℕ × Mark)) → n ≤ at
    → (key_upto (0, m) ((n, k) ∷ map (moved_up n) cuts) at).0 ≡ n + (key_upto (0, k) cuts (at - n)).0
greatest-cons n at m k cuts l =
    let z : n + 0 ≡ n = omega arith in
    rw (le-leb n at l) (ap (λ j. (key_upto (j, k) (map (moved_up n) cuts) at).0) (sym z)
    ∙ ap (λ (key : ℕ × Mark). key.0) (upto_up at n (0, k) cuts l))

greatest-past : (v w : View) (vs : List View) (at : ℕ) → view_len v ≤ at
    → greatest_key (of_pieces (v ∷ w ∷ vs)) at ≡ view_len v + greatest_key (of_pieces (w ∷ vs)) (at - view_len v)
unfolding of_pieces text_glue
greatest-past v w vs at l = greatest-cons (view_len v) at v.mark (of_pieces (w ∷ vs)).mark (of_pieces (w ∷ vs)).cuts l

one : (v : View) (at o : ℕ) → o ≡ at → (cuts_upto (of_pieces (v ∷ [])).cuts at ≡ 0) × (greatest_key (of_pieces (v ∷ [])) at + o ≡ at)
unfolding of_pieces
one v at o e = (refl, omega arith)

located : (vs : List View) (at i o : ℕ) → piece_start vs i + o ≡ at → o < view_len (piece_at vs i) → (cuts_upto (of_pieces vs).cuts at ≡ i)
    × (greatest_key (of_pieces vs) at + o ≡ at)
located [] at i o sum inside = absurd (omega arith)
located (v ∷ []) at zero o sum inside = one v at o (omega arith)
located (v ∷ []) at (suc i) o sum inside = absurd (omega arith)
located (v ∷ w ∷ vs) at zero o sum inside =
    let g = greatest-within v w vs at (omega arith) in
    ((cuts-none at (view_len v) _ (from_on-of_pieces v (w ∷ vs)) (omega arith)), omega arith)
located (v ∷ w ∷ vs) at (suc i) o sum inside =
    let n : piece_start (v ∷ w ∷ vs) (suc i) ≡ view_len v + piece_start (w ∷ vs) i = length-append v.bytes
    (pieces_bytes (take i (w ∷ vs))) in
    let ih = located (w ∷ vs) (at - view_len v) i o (omega arith) inside in
    let k = keys-past v w vs at (omega arith) in
    let g = greatest-past v w vs at (omega arith) in
    let a = ih.0 in
    let b = ih.1 in
    (omega arith, omega arith)

-- the index of the chunk of an offset, plus one, is the number of keys up to the offset
pub index-located : (vs : List View) (t : MarkedText) (at i o : ℕ) → of_pieces vs ≡ t → IsChunkPlace vs at i o → i + 1 ≡ keys_upto t at
index-located vs t at i o e place =
    omega (arith, (located vs at i o place.sum place.inside).0, keys-count t at, ap (λ (x : MarkedText). cuts_upto x.cuts at) e)

-- an offset is the greatest key up to it, plus its distance in its chunk
pub offset-located : (vs : List View) (t : MarkedText) (at i o : ℕ) → of_pieces vs ≡ t → IsChunkPlace vs at i o → greatest_key t at + o ≡ at
offset-located vs t at i o e place =
    omega (arith, (located vs at i o place.sum place.inside).1, ap (λ (x : MarkedText). greatest_key x at) e)
