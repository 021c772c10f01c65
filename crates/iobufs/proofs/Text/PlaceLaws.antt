-- The chunks on either side of a place, told by the chunk that holds it and how far it lies in that.
use Rattle.iobufs.proofs.Text.Known.{AreFull, IsChunkPlace, List, View, [], ap, arith, default_view, drop, get_or, left_pieces, length, length-append, piece_at, piece_start, pieces_bytes, refl, right_pieces, suc, sym, take, view_advanced, view_front, view_len, zero, ℕ, ◌++◌, ◌+◌, ◌-◌, ◌<◌, ◌^◌, ◌∙◌, ◌∷◌, ◌≡◌, ◌≤◌}
use Rattle.iobufs.proofs.Text.PieceLaws.{front-all, left_pieces-first, left_pieces-none, left_pieces-past, left_pieces-within, length-bytes, order3, right_pieces-none, right_pieces-past, right_pieces-within}
use Rattle.iobufs.proofs.Text.Sides.{no_sub}

-- By the index of the chunk that holds a place. `piece_start i vs` is the number of bytes before the i-th chunk.
pub right_pieces-at : (i at : ℕ) (vs : List View) (d : View) → i < length vs → piece_start vs i ≤ at
    → at < piece_start vs i + view_len (get_or vs i d)
    → right_pieces vs at ≡ view_advanced (get_or vs i d) (at - piece_start vs i) ∷ drop (suc i) vs
right_pieces-at i at [] d l p q = absurd (omega arith)
right_pieces-at zero at (v ∷ vs) d l p q = rw (right_pieces-within at v vs (omega arith), no_sub at)
right_pieces-at (suc i) at (v ∷ vs) d l p q =
    let n : piece_start (v ∷ vs) (suc i) ≡ view_len v + piece_start vs i = length-append v.bytes (pieces_bytes (take i vs)) in
    let k : at - piece_start (v ∷ vs) (suc i) ≡ at - view_len v - piece_start vs i = omega arith in
    rw (right_pieces-past at v vs (omega arith), k) (right_pieces-at i (at - view_len v) vs d (omega arith) (omega arith) (omega arith))

pub left_pieces-at : (i at : ℕ) (vs : List View) (d : View) → i < length vs → piece_start vs i < at
    → at ≤ piece_start vs i + view_len (get_or vs i d)
    → left_pieces vs at ≡ take i vs ++ view_front (get_or vs i d) (at - piece_start vs i) ∷ []
left_pieces-at i at [] d l p q = absurd (omega arith)
left_pieces-at zero at (v ∷ vs) d l p q =
    order3 at (view_len v)
    (λ h. rw (left_pieces-within at v vs (omega arith) h, no_sub at))
    (λ h. rw (left_pieces-first at v vs (omega arith) h, no_sub at) (ap (λ x. x ∷ []) (sym (front-all at v (omega arith)))))
    (λ h. absurd (omega arith))
left_pieces-at (suc i) at (v ∷ vs) d l p q =
    let k : at - piece_start (v ∷ vs) (suc i) ≡ at - view_len v - piece_start vs i = omega
    (arith, length-append v.bytes (pieces_bytes (take i vs))) in
    rw (left_pieces-past at v vs (omega arith) (omega arith), k)
    (ap (λ ws. v ∷ ws) (left_pieces-at i (at - view_len v) vs d (omega arith) (omega arith) (omega arith)))

-- a place between two chunks
pub left_pieces-seam : (i : ℕ) (vs : List View) → AreFull vs → left_pieces vs (piece_start vs i) ≡ take i vs
left_pieces-seam zero vs f = left_pieces-none vs
left_pieces-seam (suc i) [] f = refl
left_pieces-seam (suc i) (v ∷ vs) f =
    let n : piece_start (v ∷ vs) (suc i) ≡ view_len v + piece_start vs i = length-append v.bytes (pieces_bytes (take i vs)) in
    let k : piece_start (v ∷ vs) (suc i) - view_len v ≡ piece_start vs i = omega arith in
    cc (left_pieces-past (piece_start (v ∷ vs) (suc i)) v vs (omega (arith, f.0)) (omega arith), left_pieces-seam i vs f.1)

pub right_pieces-seam : (i : ℕ) (vs : List View) → AreFull vs → right_pieces vs (piece_start vs i) ≡ drop i vs
right_pieces-seam zero vs f = right_pieces-none vs f
right_pieces-seam (suc i) [] f = refl
right_pieces-seam (suc i) (v ∷ vs) f =
    let n : piece_start (v ∷ vs) (suc i) ≡ view_len v + piece_start vs i = length-append v.bytes (pieces_bytes (take i vs)) in
    right_pieces-past (piece_start (v ∷ vs) (suc i)) v vs (omega arith) ∙ ap (λ m. right_pieces vs m) (omega arith)
    ∙ right_pieces-seam i vs f.1

-- the chunk of a place is one of the chunks
pub index-of_place : (vs : List View) (at i o : ℕ) → IsChunkPlace vs at i o → i < length vs
index-of_place vs at i o h = within vs i h.inside
  where
    within : (vs : List View) (i : ℕ) → o < view_len (piece_at vs i) → i < length vs
    within [] i l = absurd (omega arith)
    within (v ∷ vs) zero l = omega arith
    within (v ∷ vs) (suc i) l = let ih = within vs i l in omega arith

-- where a number holds the bytes of the place's chunk, and those of several chunks, it holds those of all
pub bytes-fit : (vs : List View) (at i o : ℕ) → IsChunkPlace vs at i o → view_len (piece_at vs i) < 2 ^ 64
    → (1 < length vs → length (pieces_bytes vs) < 2 ^ 64) → length (pieces_bytes vs) < 2 ^ 64
bytes-fit [] at i o place here many = omega arith
bytes-fit (v ∷ []) at zero o place here many = omega (arith, length-bytes v [])
bytes-fit (v ∷ []) at (suc i) o place here many = absurd (omega (arith, index-of_place (v ∷ []) at (suc i) o place))
bytes-fit (v ∷ w ∷ vs) at i o place here many = many (omega arith)

-- up to a place inside a chunk stand the chunks before that one, and its front
pub left-at_place : (vs : List View) (at i o : ℕ) → IsChunkPlace vs at i o → 0 < o
    → left_pieces vs at ≡ take i vs ++ view_front (piece_at vs i) o ∷ []
left-at_place vs at i o h p =
    let d : at - piece_start vs i ≡ o = omega (arith, h.sum, h.inside) in
    left_pieces-at i at vs default_view (index-of_place vs at i o h) (omega arith) (omega arith)
    ∙ ap (λ m. take i vs ++ view_front (piece_at vs i) m ∷ []) d

-- from a place in a chunk on stand that chunk advanced, and those after it
pub right-at_place : (vs : List View) (at i o : ℕ) → IsChunkPlace vs at i o
    → right_pieces vs at ≡ view_advanced (piece_at vs i) o ∷ drop (suc i) vs
right-at_place vs at i o h =
    let n = index-of_place vs at i o h in
    right_pieces-at i at vs default_view n (omega arith) (omega arith)
    ∙ ap (λ m. view_advanced (piece_at vs i) m ∷ drop (suc i) vs) (omega arith)

-- a place between two chunks
pub left-at_edge : (vs : List View) (at i o : ℕ) → AreFull vs → IsChunkPlace vs at i o → o ≡ 0 → left_pieces vs at ≡ take i vs
left-at_edge vs at i o f h z =
    ap (λ m. left_pieces vs m) (omega (arith, h.sum)) ∙ left_pieces-seam i vs f

-- where no chunk is empty, from the first byte of one on stand that one and those after it
pub right-at_edge : (vs : List View) (at i o : ℕ) → AreFull vs → IsChunkPlace vs at i o → o ≡ 0 → right_pieces vs at ≡ drop i vs
right-at_edge vs at i o f h z =
    ap (λ m. right_pieces vs m) (omega (arith, h.sum)) ∙ right_pieces-seam i vs f
