-- How many chunks stand on a side of a place or after a push: at least one, and none is empty; and where the last one stands.
use Rattle.iobufs.proofs.Text.Known.{AreFull, Err, Form, IsChunkPlace, IsPieced, List, Ok, OnErr, OnOk, Result, View, [], ap, append-nil, arith, by_lt, flat_map-append, left_pieces, length, length-append, length-drop, length-take-le, map, piece_at, piece_start, pieces_bytes, refl, right_pieces, subst, suc, sym, take-append_seam, view_len, ℕ, ◌++◌, ◌+◌, ◌-◌, ◌<◌, ◌∙◌, ◌∷◌, ◌≡◌, ◌≤◌}
use Rattle.iobufs.proofs.Text.EndLaws.{start-next, starts-below}
use Rattle.iobufs.proofs.Text.PieceLaws.{AreFull-append, AreFull-left, AreFull-right, bytes-left, left_pieces-past, length-bytes, order3}
use Rattle.iobufs.proofs.Text.PlaceLaws.{index-of_place, right-at_place}

-- in an arm: what is known, by that arm's chunks
pub pieced-as : {a b : Form} → a ≡ b → IsPieced a → IsPieced b
pieced-as is h = subst IsPieced is h

-- chunks of which none is empty are so with one more that has bytes
pub several-push : (vs ws : List View) (w : View) → (0 < length vs) × AreFull vs → 0 < view_len w → ws ≡ vs ++ w ∷ []
    → (0 < length ws) × AreFull ws
several-push vs ws w h p e =
    (omega (arith, length-append vs (w ∷ []), ap length e, h.0), subst AreFull (sym e) (AreFull-append vs (w ∷ []) h.1 (p, tt)))

-- a place below the end of chunks, under another name of these
pub below-as : {vs ws : List View} {at : ℕ} → vs ≡ ws → at < length (pieces_bytes vs) → at < length (pieces_bytes ws)
below-as {vs} {ws} {at} is l = subst (λ (us : List View). at < length (pieces_bytes us)) is l

-- chunks of which none is empty, and what a call makes of them where it isn't refused
pub several-either : {A E : Type 0} (result : Result A E) (vs us ws : List View) → (0 < length vs) × AreFull vs
    → (0 < length us) × AreFull us
    → OnOk result (ws ≡ us) → OnErr result (ws ≡ vs) → (0 < length ws) × AreFull ws
several-either (Ok a) vs us ws old new done same = subst (λ xs. (0 < length xs) × AreFull xs) (sym done) new
several-either (Err e) vs us ws old new done same = subst (λ xs. (0 < length xs) × AreFull xs) (sym same) old

-- where no chunk is empty, none is of those from a place below the end on, and there is one
pub right-full : (vs ws : List View) (at : ℕ) → AreFull vs → at < length (pieces_bytes vs) → ws ≡ right_pieces vs at
    → AreFull ws × (0 < length ws)
right-full vs ws at f l is = subst (λ xs. AreFull xs × (0 < length xs)) (sym is) (AreFull-right at vs f l)

left-some : (vs : List View) (at : ℕ) → 0 < at → at ≤ length (pieces_bytes vs) → 0 < length (left_pieces vs at)
left-some vs at p l = some (left_pieces vs at) (ap length (bytes-left at vs p l) ∙ length-take-le at (pieces_bytes vs) l)
  where
    some : (ws : List View) → length (pieces_bytes ws) ≡ at → 0 < length ws
    some [] e = absurd (omega arith)
    some (w ∷ ws) e = omega arith

-- after the first chunk
pub left-two : (vs ws : List View) (at : ℕ) → AreFull vs → view_len (piece_at vs 0) < at → at < length (pieces_bytes vs)
    → ws ≡ left_pieces vs at
    → (0 < length ws) × AreFull ws
left-two vs ws at f past l is =
    (omega (arith, two vs past l, ap (λ (xs : List View). length xs) is), subst AreFull (sym is) (AreFull-left at vs f))
  where
    two : (vs : List View) → view_len (piece_at vs 0) < at → at < length (pieces_bytes vs) → 1 < length (left_pieces vs at)
    two [] past l = absurd (omega arith)
    two (v ∷ vs) past l =
        let b = length-bytes v vs in
        let more = left-some vs (at - view_len v) (omega arith) (omega arith) in
        rw (left_pieces-past at v vs (omega arith) (omega arith)) (omega arith)

-- up to the last chunk
pub right-two : (vs ws : List View) (at i o : ℕ) → AreFull vs → at < length (pieces_bytes vs) → IsChunkPlace vs at i o → i + 1 < length vs
    → ws ≡ right_pieces vs at → (0 < length ws) × AreFull ws
right-two vs ws at i o f l place more is = (
  omega (
    arith,
    ap (λ (xs : List View). length xs) (is ∙ right-at_place vs at i o place),
    length-drop (suc i) vs,
  ),
  (right-full vs ws at f l is).0,
)

-- at the edge of the last chunk a place has nothing before it there
pub edge-last : (vs front : List View) (last : View) (at i o : ℕ) → AreFull vs → vs ≡ front ++ last ∷ []
    → at + view_len last ≡ length (pieces_bytes vs) → IsChunkPlace vs at i o → (i + 1 ≡ length vs) × (o ≡ 0)
edge-last vs front last at i o full is edge place =
    let k = length front in
    let n = ap (λ (xs : List View). length xs) is ∙ length-append front (last ∷ []) in
    let total = ap (λ (xs : List View). length (pieces_bytes xs)) is ∙ ap length (flat_map-append (λ (v : View). v.bytes) front (last ∷ []))
    ∙ length-append (pieces_bytes front) (last.bytes ++ []) in
    let end = ap length (append-nil last.bytes) in
    let before : piece_start vs k ≡ length (pieces_bytes front) = cc (take-append_seam front (last ∷ [])) in
    let sum = place.sum in
    let inside = place.inside in
    let index = index-of_place vs at i o place in
    let next = start-next vs i index in
    order3 i k
    (λ h. by_lt (suc i) k (λ g. let r = starts-below vs (suc i) k full g (omega arith) in absurd (omega arith))
    (λ g. let e : suc i ≡ k = omega arith in let r = ap (piece_start vs) e in absurd (omega arith)))
    (λ h. let r = ap (piece_start vs) h in (omega arith, omega arith))
    (λ h. let r = starts-below vs k i full h (omega arith) in absurd (omega arith))

-- the last of some views is this chunk's
pub record HasLast (vs : List View) (chunk : List ℕ) : Type 0 where
  pub before : List View
  pub last : View
  pub is : vs ≡ before ++ last ∷ []
  pub bytes : last.bytes ≡ chunk

-- the last of several chunks is the last chunk's
pub last-view : (vs : List View) (front : List (List ℕ)) (chunk : List ℕ) → map (λ (v : View). v.bytes) vs ≡ front ++ chunk ∷ []
    → HasLast vs chunk
last-view [] [] chunk e = let n = ap (λ (xs : List (List ℕ)). length xs) e in absurd (omega arith)
last-view [] (x ∷ xs) chunk e = let n = ap (λ (xs : List (List ℕ)). length xs) e in absurd (omega arith)
last-view (v ∷ []) [] chunk e = record { before = []; last = v; is = refl; bytes = (let first : v.bytes ≡ chunk = cc in first) }
last-view (v ∷ []) (x ∷ xs) chunk e =
    absurd (omega (arith, ap (λ (ys : List (List ℕ)). length ys) e, length-append xs (chunk ∷ [])))
last-view (v ∷ w ∷ vs) [] chunk e = let n = ap (λ (xs : List (List ℕ)). length xs) e in absurd (omega arith)
last-view (v ∷ w ∷ vs) (x ∷ xs) chunk e =
    let ih = last-view (w ∷ vs) xs chunk (cc) in
    record { before = v ∷ ih.before; last = ih.last; is = ap (λ us. v ∷ us) {y = ih.before ++ ih.last ∷ []} ih.is; bytes = ih.bytes }
