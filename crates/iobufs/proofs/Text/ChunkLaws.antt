-- The chunks of a text (`text_chunks`): of chunks that hold bytes the bytes of each, of the empty text none.
use Rattle.iobufs.proofs.Text.Known.{AreFull, List, Mark, MarkedText, View, [], ap, arith, cut_up, drop, drop_past, full_chunks, is_full, length, map, moved_up, of_pieces, refl, suc, sym, take, take-append_seam, text_chunks, text_glue, text_len, true, view_len, zero, ℕ, ◌++◌, ◌+◌, ◌-◌, ◌<◌, ◌∙◌, ◌∷◌, ◌≡◌}
use Rattle.iobufs.proofs.Text.Sides.{no_sub}

moved_off : (n k key : ℕ) (bytes : List ℕ) (cuts : List (ℕ × Mark)) → cut_up bytes (n + key) (map (moved_up n) cuts) ≡ cut_up bytes key cuts
moved_off n k key bytes [] = refl
moved_off n k key bytes (cut ∷ cuts) =
    let d : n + cut.0 - (n + key) ≡ cut.0 - key = omega arith in
    rw d (ap (λ rest. take (cut.0 - key) bytes ∷ rest) (moved_off n k cut.0 (drop (cut.0 - key) bytes) cuts))

cut_up-of_pieces : (v : View) (vs : List View) → let t = of_pieces (v ∷ vs) in cut_up t.bytes 0 t.cuts ≡ map (λ (w : View). w.bytes)
    (v ∷ vs)
unfolding of_pieces text_glue
cut_up-of_pieces v [] = refl
cut_up-of_pieces v (w ∷ vs) =
    let y = of_pieces (w ∷ vs) in
    let a : take (view_len v) (v.bytes ++ y.bytes) ≡ v.bytes = take-append_seam v.bytes y.bytes in
    let b : drop (view_len v) (v.bytes ++ y.bytes) ≡ y.bytes = drop_past (view_len v) v.bytes y.bytes (omega arith)
    ∙ ap (λ n. drop n y.bytes) (let z : view_len v - view_len v ≡ 0 = omega arith in z) in
    let n : view_len v + 0 ≡ view_len v = omega arith in
    let c : cut_up y.bytes (view_len v) (map (moved_up (view_len v)) y.cuts) ≡ cut_up y.bytes 0 y.cuts =
    ap (λ k. cut_up y.bytes k (map (moved_up (view_len v)) y.cuts)) (sym n) ∙ moved_off (view_len v) 0 0 y.bytes y.cuts in
    rw (no_sub (view_len v), a, b, c, cut_up-of_pieces w vs)

full_chunks-full : (vs : List View) → AreFull vs → full_chunks (map (λ (v : View). v.bytes) vs) ≡ map (λ (v : View). v.bytes) vs
full_chunks-full [] f = refl
full_chunks-full (v ∷ vs) f = rw (full_is v.bytes f.0) (ap (λ rest. v.bytes ∷ rest) (full_chunks-full vs f.1))
  where
    full_is : (bytes : List ℕ) → 0 < length bytes → is_full bytes ≡ true
    full_is [] l = absurd (omega arith)
    full_is (byte ∷ bytes) l = refl

-- the chunks of views that hold bytes are the views' bytes
pub chunks-of_pieces : (v : View) (vs : List View) → AreFull (v ∷ vs)
    → text_chunks (of_pieces (v ∷ vs)) ≡ map (λ (w : View). w.bytes) (v ∷ vs)
unfolding text_chunks
chunks-of_pieces v vs f = ap full_chunks (cut_up-of_pieces v vs) ∙ full_chunks-full (v ∷ vs) f

take_none : (n : ℕ) → take {A = ℕ} n [] ≡ []
take_none zero = refl
take_none (suc n) = refl

drop_none : (n : ℕ) → drop {A = ℕ} n [] ≡ []
drop_none zero = refl
drop_none (suc n) = refl

-- an empty text shows no chunk
pub chunks-of_empty : (t : MarkedText) → text_len t ≡ 0 → text_chunks t ≡ []
unfolding text_chunks
chunks-of_empty t e = none t.bytes 0 t.cuts e
  where
    none : (bytes : List ℕ) (key : ℕ) (cuts : List (ℕ × Mark)) → length bytes ≡ 0 → full_chunks (cut_up bytes key cuts) ≡ []
    none [] key [] e = refl
    none (byte ∷ bytes) key [] e = absurd (omega arith)
    none [] key (cut ∷ cuts) e = rw (take_none (cut.0 - key), drop_none (cut.0 - key)) (none [] cut.0 cuts e)
    none (byte ∷ bytes) key (cut ∷ cuts) e = absurd (omega arith)
