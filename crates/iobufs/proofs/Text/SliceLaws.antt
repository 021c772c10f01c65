-- A range of a text: the chunks that hold it, cut at both ends.
use Rattle.iobufs.proofs.Text.Known.{AreFull, AreViews, IsChunkPlace, List, MarkedText, Entry, View, [], add-one, ap, append_assoc, arith, by_lt, bytes-rest, common_steps, default_view, drop, drop-cons, first_chunk, flat_map-append, get_or, get_or-drop, left_pieces, length, length-append, length-drop, mark_after, nat_tests, of_pieces, piece_at, piece_start, pieces_bytes, refl, right_pieces, static_mark, suc, sym, take, take-add, take_more, taken_view, text_chunks, text_len, text_rest, text_split_front, view_advanced, view_len, zero, ℕ, ◌++◌, ◌+◌, ◌-◌, ◌<◌, ◌∙◌, ◌∷◌, ◌≡◌, ◌≤◌}
use Rattle.iobufs.proofs.Text.EndLaws.{start-next, starts-below}
use Rattle.iobufs.proofs.Text.PieceLaws.{AreFull-right, left_pieces-none, left_pieces-past, left_pieces-within, len-of_pieces, length-bytes, rest-of_pieces, right_pieces-none, right_pieces-past, right_pieces-within, split_front-of_pieces}
use Rattle.iobufs.proofs.Text.PlaceLaws.{index-of_place, left_pieces-seam, right-at_place}
use Rattle.iobufs.proofs.Text.ReadLaws.{first-of}
use Rattle.iobufs.proofs.Text.TakenLaws.{taken_view-within}

-- a clone of the next chunk after clones of those from one on
pub run-more : (ps begun run more : List Entry) (first i : ℕ) (piece clone : Entry) → first + i < length ps
    → piece ≡ get_or ps (first + i) piece
    → clone ≡ piece → run ≡ begun ++ take i (drop first ps) → more ≡ run ++ clone ∷ [] → more ≡ begun ++ take (i + 1) (drop first ps)
run-more ps begun run more first i piece clone l is same so_far put =
    let behind = drop first ps in
    let here : get_or behind i piece ≡ clone = get_or-drop first ps i piece ∙ sym is ∙ sym same in
    cc (append_assoc begun (take i behind) (clone ∷ []), take_more behind i piece (omega (arith, l, length-drop first ps)))

-- up to a place that the first of some chunks reach, these say what stands
left_pieces-take : (m n : ℕ) (vs : List View) → n ≤ length (pieces_bytes (take m vs)) → left_pieces (take m vs) n ≡ left_pieces vs n
left_pieces-take zero n vs l = let none : n ≡ 0 = omega (arith, l) in rw none (sym (left_pieces-none vs))
left_pieces-take (suc m) n [] l = refl
left_pieces-take (suc m) n (v ∷ vs) l =
    by_lt 0 n (λ some. by_lt n (view_len v) (λ h. left_pieces-within n v (take m vs) some h ∙ sym (left_pieces-within n v vs some h))
    (λ h. left_pieces-past n v (take m vs) some h
    ∙ ap (λ ws. v ∷ ws) (left_pieces-take m (n - view_len v) vs (omega (arith, l, length-bytes v (take m vs))))
    ∙ sym (left_pieces-past n v vs some h)))
    (λ h. let none : n ≡ 0 = omega (arith, h) in rw none (left_pieces-none (take (suc m) (v ∷ vs)) ∙ sym (left_pieces-none (v ∷ vs))))

-- how many bytes stand before the chunks after a run
start-run : (vs : List View) (i m : ℕ) → piece_start vs (i + m) ≡ piece_start vs i + length (pieces_bytes (take m (drop i vs)))
start-run vs i m =
    ap (λ (ws : List View). length (pieces_bytes ws)) (take-add i m vs)
    ∙ ap length (flat_map-append (λ (v : View). v.bytes) (take i vs) (take m (drop i vs)))
    ∙ length-append (pieces_bytes (take i vs)) (pieces_bytes (take m (drop i vs)))

-- chunks that hold n bytes from within the first on, and others after them, have the same n bytes from there on
within-run : (v : View) (vs : List View) (k o n : ℕ) → o < view_len v → o + n ≤ length (pieces_bytes (take (suc k) (v ∷ vs)))
    → left_pieces (right_pieces (take (suc k) (v ∷ vs)) o) n ≡ left_pieces (view_advanced v o ∷ vs) n
within-run v vs k o n inside l =
    ap (λ ws. left_pieces ws n) (right_pieces-within o v (take k vs) inside)
    ∙ left_pieces-take (suc k) n (view_advanced v o ∷ vs)
    (omega (arith, l, inside, length-bytes v (take k vs), length-bytes (view_advanced v o) (take k vs), length-drop o v.bytes))

-- all bytes of a text that has some are the text
pub split_front-all : (t : MarkedText) (n : ℕ) → 0 < n → n ≡ text_len t → text_split_front t n ≡ t
split_front-all t n some all = grind (arith, nat_tests, common_steps)

take-all : (vs : List View) → take (length vs) vs ≡ vs
take-all [] = refl
take-all (v ∷ vs) = ap (λ ws. v ∷ ws) (take-all vs)

-- all bytes of full chunks are these
left_pieces-all : (vs : List View) (n : ℕ) → AreFull vs → n ≡ length (pieces_bytes vs) → left_pieces vs n ≡ vs
left_pieces-all vs n full all =
    ap (left_pieces vs) (all ∙ ap (λ (ws : List View). length (pieces_bytes ws)) (sym (take-all vs))) ∙ left_pieces-seam (length vs) vs full
    ∙ take-all vs

front-of_pieces : (vs : List View) (n : ℕ) → AreFull vs → 0 < n → n ≤ length (pieces_bytes vs)
    → text_split_front (of_pieces vs) n ≡ of_pieces (left_pieces vs n)
front-of_pieces vs n full some l =
    by_lt n (length (pieces_bytes vs)) (λ h. split_front-of_pieces n vs some h)
    (λ h. cc (
      split_front-all (of_pieces vs) n some (omega (arith, l, h, len-of_pieces vs)),
      left_pieces-all vs n full (omega (arith, l, h)),
    ))

rest-from : (vs : List View) (at : ℕ) → AreFull vs → at < length (pieces_bytes vs)
    → text_rest (of_pieces vs) at ≡ of_pieces (right_pieces vs at)
rest-from vs at full l =
    by_lt 0 at (λ some. rest-of_pieces at vs some l)
    (λ h. let none : at ≡ 0 = omega (arith, h) in rw none (ap of_pieces (sym (right_pieces-none vs full))))

length-right : (at : ℕ) (vs : List View) → at < length (pieces_bytes vs)
    → at + length (pieces_bytes (right_pieces vs at)) ≡ length (pieces_bytes vs)
length-right at [] l = absurd (omega (arith, l))
length-right at (v ∷ vs) l =
    let n = length-bytes v vs in
    by_lt at (view_len v) (λ h. omega (
      arith,
      h,
      n,
      ap (λ (ws : List View). length (pieces_bytes ws)) (right_pieces-within at v vs h),
      length-bytes (view_advanced v at) vs,
      length-drop at v.bytes,
    ))
    (λ h. omega (
      arith,
      h,
      n,
      ap (λ (ws : List View). length (pieces_bytes ws)) (right_pieces-past at v vs h),
      length-right (at - view_len v) vs (omega (arith, l, h, n)),
    ))

-- n bytes of full chunks from a place on are what stands up to n after the place
cut-of_pieces : (vs : List View) (at n : ℕ) → AreFull vs → 0 < n → at + n ≤ length (pieces_bytes vs)
    → text_split_front (text_rest (of_pieces vs) at) n ≡ of_pieces (left_pieces (right_pieces vs at) n)
cut-of_pieces vs at n full some l =
    let right = AreFull-right at vs full (omega (arith, l, some)) in
    ap (λ (t : MarkedText). text_split_front t n) (rest-from vs at full (omega (arith, l, some)))
    ∙ front-of_pieces (right_pieces vs at) n right.0 some (omega (arith, l, some, length-right at vs (omega (arith, l, some))))

-- after a place inside stand as many bytes as are left of the text
pub rest-len : (t : MarkedText) (at : ℕ) → at ≤ text_len t → at + text_len (text_rest t at) ≡ text_len t
rest-len t at l = omega (arith, l, ap length (bytes-rest t at l), length-drop at t.bytes)

-- a run of chunks from the place's on that hold n bytes from there, cut at both ends, is the range
pub cut-run : (vs run : List View) (t u : MarkedText) (start n i o k : ℕ) → of_pieces vs ≡ t → of_pieces run ≡ u → AreFull vs → AreFull run
    → run ≡ take (k + 1) (drop i vs) → IsChunkPlace vs start i o → 0 < n → start + n ≤ length (pieces_bytes vs)
    → o + n ≤ length (pieces_bytes run)
    → text_split_front (text_rest u o) n ≡ text_split_front (text_rest t start) n
cut-run vs run t u start n i o k text run_text full run_full is place some l held =
    let ranged : MarkedText → ℕ → MarkedText = λ x at. text_split_front (text_rest x at) n in
    let from : run ≡ take (suc k) (piece_at vs i ∷ drop (suc i) vs) = cc
    (drop-cons vs i default_view (index-of_place vs start i o place), add-one k) in
    let pieces : left_pieces (right_pieces run o) n ≡ left_pieces (right_pieces vs start) n =
    ap (λ ws. left_pieces (right_pieces ws o) n) from
    ∙ within-run (piece_at vs i) (drop (suc i) vs) k o n place.inside
    (omega (arith, held, ap (λ (ws : List View). length (pieces_bytes ws)) from))
    ∙ ap (λ ws. left_pieces ws n) (sym (right-at_place vs start i o place)) in
    cc (cut-of_pieces run o n run_full some held, cut-of_pieces vs start n full some l)

-- of full chunks the one that holds a place stands no further on than that of a place after it
pub places-rise : (vs : List View) (from to i j o p : ℕ) → AreFull vs → IsChunkPlace vs from i o → IsChunkPlace vs to j p → from ≤ to
    → i ≤ j
places-rise vs from to i j o p full here there l =
    by_lt j i (λ h. let index = index-of_place vs from i o here in
    let next = start-next vs j (omega (arith, h, index)) in
    let start : piece_start vs (suc j) ≤ piece_start vs i = by_lt (suc j) i
    (λ m. let below = starts-below vs (suc j) i full m (omega (arith, index)) in omega (arith, below))
    (λ m. let same : suc j ≡ i = omega (arith, m, h) in omega (arith, ap (piece_start vs) same)) in
    absurd (omega (arith, next, start, here.sum, there.sum, there.inside, l)))
    (λ h. h)

-- the chunks from that of a place to that of a place after it hold what lies between, with the byte there
pub held-between : (vs run : List View) (from to i j o p : ℕ) → AreFull vs → IsChunkPlace vs from i o → IsChunkPlace vs to j p → from ≤ to
    → run ≡ take (j - i + 1) (drop i vs) → o + (to - from) < length (pieces_bytes run)
held-between vs run from to i j o p full here there l is =
    let rise = places-rise vs from to i j o p full here there l in
    let next = start-next vs j (index-of_place vs to j p there) in
    let last : piece_start vs (i + (j - i + 1)) ≡ piece_start vs
    (suc j) = (let e : i + (j - i + 1) ≡ suc j = omega (arith, rise) in ap (piece_start vs) e) in
    omega (
      arith,
      next,
      start-run vs i (j - i + 1),
      last,
      here.sum,
      there.sum,
      there.inside,
      l,
      ap (λ (ws : List View). length (pieces_bytes ws)) is,
    )

-- a chunk that holds all bytes from a place to one after it holds that one too
pub places-meet : (vs : List View) (from to i j o p : ℕ) → AreFull vs → IsChunkPlace vs from i o → IsChunkPlace vs to j p → from ≤ to
    → o + (to - from) < view_len (piece_at vs i) → j - i ≡ 0
places-meet vs from to i j o p full here there l within =
    by_lt i j (λ h. let index = index-of_place vs to j p there in
    let next = start-next vs i (omega (arith, h, index)) in
    let start : piece_start vs (suc i) ≤ piece_start vs j = by_lt (suc i) j
    (λ m. let below = starts-below vs (suc i) j full m (omega (arith, index)) in omega (arith, below))
    (λ m. let same : suc i ≡ j = omega (arith, m, h) in omega (arith, ap (piece_start vs) same)) in
    absurd (omega (arith, next, start, here.sum, there.sum, within, l)))
    (λ h. omega (arith, h))

-- a run of the chunk of a place alone
only-run : (vs run : List View) (i k : ℕ) → i < length vs → run ≡ take (k + 1) (drop i vs) → k ≡ 0 → run ≡ piece_at vs i ∷ []
only-run vs run i k index is none =
    is ∙ ap (λ m. take (m + 1) (drop i vs)) none ∙ ap (take 1) (drop-cons vs i default_view index)

-- a single static chunk with n bytes after an offset leaves, cut there, a static first chunk of at least n bytes
pub static-run : (vs run : List View) (t : MarkedText) (from n i o k : ℕ) → AreFull vs → IsChunkPlace vs from i o
    → run ≡ take (k + 1) (drop i vs) → k ≡ 0
    → 0 < n → o + n ≤ view_len (piece_at vs i) → (piece_at vs i).mark ≡ static_mark → t ≡ text_rest (of_pieces run) o
    → (n ≤ length (first_chunk (text_chunks t))) × ((taken_view t 0 n).mark ≡ static_mark)
static-run vs run t from n i o k full place is none some l static rest =
    let v = piece_at vs i in
    let one = only-run vs run i k (index-of_place vs from i o place) is none in
    let w = view_advanced v o in
    let len : view_len w ≡ view_len v - o = length-drop o v.bytes in
    let text : t ≡ of_pieces (w ∷ []) =
    rest ∙ ap (λ ws. text_rest (of_pieces ws) o) one
    ∙ rest-from (v ∷ []) o (omega (arith, place.inside), tt) (omega (arith, place.inside, length-bytes v []))
    ∙ ap of_pieces (right_pieces-within o v [] place.inside) in
    let chunk = ap length (first-of (w ∷ []) t (sym text) (omega arith) (λ h. (omega (arith, len, some, l), tt))) in
    let mark = ap (λ (u : View). u.mark) (ap (λ u. taken_view u 0 n) text ∙ taken_view-within n w [] some (omega (arith, len, l))) in
    (omega (arith, chunk, len, l), mark ∙ advanced-static v o static)
  where
    advanced-static : (v : View) (o : ℕ) → v.mark ≡ static_mark → mark_after o v.mark ≡ static_mark
    advanced-static v o static = ap (mark_after o) static

pub roomy-run : (m : ℕ) (vs : List View) → AreViews vs → AreViews (take m vs)
roomy-run zero vs roomy = tt
roomy-run (suc m) [] roomy = tt
roomy-run (suc m) (v ∷ vs) roomy = (roomy.0, roomy-run m vs roomy.1)

pub roomy-behind : (i : ℕ) (vs : List View) → AreViews vs → AreViews (drop i vs)
roomy-behind zero vs roomy = roomy
roomy-behind (suc i) [] roomy = tt
roomy-behind (suc i) (v ∷ vs) roomy = roomy-behind i vs roomy.1
