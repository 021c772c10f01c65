-- The views of a text (`text_views`): those of its chunks.
use Rattle.iobufs.proofs.Text.Known.{List, Mark, MarkedText, View, [], ap, arith, drop, drop_past, length, map, moved_up, of_pieces, refl, sym, take, take-append_seam, text_glue, view_len, ℕ, ◌++◌, ◌+◌, ◌-◌, ◌<◌, ◌∙◌, ◌∷◌, ◌≡◌}
use Rattle.iobufs.proofs.Text.Sides.{no_sub}
use Rattle.iobufs.specs.Views.{cut_views, text_views}

moved_off : (n key : ℕ) (mark : Mark) (bytes : List ℕ) (cuts : List (ℕ × Mark))
    → cut_views bytes (n + key) mark (map (moved_up n) cuts) ≡ cut_views bytes key mark cuts
moved_off n key mark bytes [] = refl
moved_off n key mark bytes (cut ∷ cuts) =
    let d : n + cut.0 - (n + key) ≡ cut.0 - key = omega arith in
    let this : View = record { bytes = take (cut.0 - key) bytes; mark = mark } in
    rw d (ap (λ (rest : List View). this ∷ rest) (moved_off n cut.0 cut.1 (drop (cut.0 - key) bytes) cuts))

views-of_pieces : (v : View) (vs : List View) → let t = of_pieces (v ∷ vs) in cut_views t.bytes 0 t.mark t.cuts ≡ v ∷ vs
unfolding of_pieces text_glue
views-of_pieces v [] = refl
views-of_pieces v (w ∷ vs) =
    let y = of_pieces (w ∷ vs) in
    let a : take (view_len v) (v.bytes ++ y.bytes) ≡ v.bytes = take-append_seam v.bytes y.bytes in
    let b : drop (view_len v) (v.bytes ++ y.bytes) ≡ y.bytes = drop_past (view_len v) v.bytes y.bytes (omega arith)
    ∙ ap (λ n. drop n y.bytes) (let z : view_len v - view_len v ≡ 0 = omega arith in z) in
    let n : view_len v + 0 ≡ view_len v = omega arith in
    let c : cut_views y.bytes (view_len v) y.mark (map (moved_up (view_len v)) y.cuts) ≡ cut_views y.bytes 0 y.mark y.cuts =
    ap (λ k. cut_views y.bytes k y.mark (map (moved_up (view_len v)) y.cuts)) (sym n) ∙ moved_off (view_len v) 0 y.mark y.bytes y.cuts in
    rw (no_sub (view_len v), a, b, c, views-of_pieces w vs)

-- the views of a text of chunks are the chunks
pub views-kept : (vs : List View) (t : MarkedText) → of_pieces vs ≡ t → 0 < length vs → text_views t ≡ vs
unfolding text_views
views-kept [] t e l = absurd (omega arith)
views-kept (v ∷ vs) t e l = sym (ap text_views e) ∙ views-of_pieces v vs
