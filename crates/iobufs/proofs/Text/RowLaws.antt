-- A row that is cut at its first chunk, at its last one, or anywhere: each side has the chunks of its side of the place, and is a row.
use Rattle.iobufs.proofs.Text.Known.{AreFull, IsChunkPlace, IsRow, List, Option, Entry, Some, View, ViewRow, [], ap, append-nil, arith, by_lt, cut_piece, default_view, drop, drop-cons, left_pieces, length, length-append, length-take-le, map, option_to_list, piece_at, piece_start, pieces_bytes, refl, right_pieces, shortened, subst, suc, sym, take, take-append_seam, view_advanced, view_front, view_len, views_in, zero, ℕ, ◌%◌, ◌++◌, ◌+◌, ◌<◌, ◌^◌, ◌∙◌, ◌∷◌, ◌≡◌}
use Rattle.iobufs.proofs.Text.EndLaws.{row-drop, row-push, row-shorten, row-take, views-drop, views-popped, views-take}
use Rattle.iobufs.proofs.Text.PieceLaws.{right_pieces-none, right_pieces-past, right_pieces-within}
use Rattle.iobufs.proofs.Text.PlaceLaws.{index-of_place, left-at_edge, left-at_place, right-at_edge, right-at_place}
use Rattle.iobufs.proofs.Text.Sides.{not_zero}

-- where no chunk is empty, the chunks but the first are those from its end on
pub first-right : (vs ws : List View) (v : View) (at : ℕ) → vs ≡ v ∷ ws → AreFull vs → at ≡ view_len v → ws ≡ right_pieces vs at
first-right vs ws v at is full all =
    let f = subst AreFull is full in
    sym (ap (λ xs. right_pieces xs at) is ∙ right_pieces-past at v ws (omega arith) ∙ ap (right_pieces ws) (omega arith)
    ∙ right_pieces-none ws f.1)

-- the first chunk without its first bytes
pub right-shortened : (ps : List Entry) (n : ℕ) → n < view_len (piece_at (views_in ps) 0)
    → views_in (shortened ps n) ≡ right_pieces (views_in ps) n
right-shortened [] n l = absurd (omega arith)
right-shortened (p ∷ ps) n l = sym (right_pieces-within n p.view (views_in ps) l)

take-seam : (ws : List View) (v : View) (i : ℕ) → i ≡ length ws → take i (ws ++ v ∷ []) ≡ ws
take-seam ws v i e = ap (λ n. take n (ws ++ v ∷ [])) e ∙ take-append_seam ws (v ∷ [])

at-seam : (ws : List View) (v : View) (i : ℕ) → i ≡ length ws → piece_at (ws ++ v ∷ []) i ≡ v
at-seam [] v i e = ap (λ n. piece_at (v ∷ []) n) e
at-seam (w ∷ ws) v zero e = absurd (omega arith)
at-seam (w ∷ ws) v (suc i) e = at-seam ws v i (omega arith)

drop-seam : (ws : List View) (v : View) (i : ℕ) → i ≡ length ws → drop i (ws ++ v ∷ []) ≡ v ∷ []
drop-seam [] v i e = ap (λ n. drop n (v ∷ [])) e
drop-seam (w ∷ ws) v zero e = absurd (omega arith)
drop-seam (w ∷ ws) v (suc i) e = drop-seam ws v i (omega arith)

drop-all : (ws : List View) (v : View) (i : ℕ) → i ≡ length ws → drop (suc i) (ws ++ v ∷ []) ≡ []
drop-all [] v i e = ap (λ n. drop (suc n) (v ∷ [])) e
drop-all (w ∷ ws) v zero e = absurd (omega arith)
drop-all (w ∷ ws) v (suc i) e = drop-all ws v i (omega arith)

-- the last chunk goes, or its last bytes
pub last-left : (vs ws : List View) (v : View) (at i o : ℕ) → vs ≡ ws ++ v ∷ [] → i + 1 ≡ length vs → AreFull vs → IsChunkPlace vs at i o
    → o ≡ 0
    → ws ≡ left_pieces vs at
last-left vs ws v at i o is last full place edge =
    sym (left-at_edge vs at i o full place edge ∙ ap (take i) is
    ∙ take-seam ws v i (omega (arith, length-append ws (v ∷ []), ap length is)))

-- where no chunk is empty, the last is what stands from its first byte on
pub last-right : (vs ws : List View) (v : View) (at i o : ℕ) → vs ≡ ws ++ v ∷ [] → i + 1 ≡ length vs → AreFull vs → IsChunkPlace vs at i o
    → o ≡ 0
    → v ∷ [] ≡ right_pieces vs at
last-right vs ws v at i o is last full place edge =
    sym (right-at_edge vs at i o full place edge ∙ ap (drop i) is
    ∙ drop-seam ws v i (omega (arith, length-append ws (v ∷ []), ap length is)))

-- the last chunk is the one at its place
pub last-here : (vs ws : List View) (v : View) (i : ℕ) → vs ≡ ws ++ v ∷ [] → i + 1 ≡ length vs → piece_at vs i ≡ v
last-here vs ws v i is last =
    ap (λ xs. piece_at xs i) is ∙ at-seam ws v i (omega (arith, length-append ws (v ∷ []), ap length is))

-- the chunks but the last, and the front of that, are those up to a place inside it
pub last-front : (vs ws : List View) (v front : View) (at i o : ℕ) → vs ≡ ws ++ v ∷ [] → i + 1 ≡ length vs → IsChunkPlace vs at i o → 0 < o
    → front ≡ view_front v o → ws ++ front ∷ [] ≡ left_pieces vs at
last-front vs ws v front at i o is last place some cut =
    let before : take i vs ≡ ws = ap (take i) is ∙ take-seam ws v i (omega (arith, length-append ws (v ∷ []), ap length is)) in
    sym (left-at_place vs at i o place some ∙ (λ k. before k ++ view_front ((last-here vs ws v i is last) k) o ∷ [])
    ∙ ap (λ x. ws ++ x ∷ []) (sym cut))

-- the last chunk, advanced, is the right side of an offset in it
pub last-behind : (vs ws : List View) (v behind : View) (at i o : ℕ) → vs ≡ ws ++ v ∷ [] → i + 1 ≡ length vs → IsChunkPlace vs at i o
    → behind ≡ view_advanced v o → behind ∷ [] ≡ right_pieces vs at
last-behind vs ws v behind at i o is last place cut =
    let none : drop (suc i) vs ≡ [] = ap (drop (suc i)) is ∙ drop-all ws v i (omega (arith, length-append ws (v ∷ []), ap length is)) in
    sym (right-at_place vs at i o place ∙ (λ k. view_advanced ((last-here vs ws v i is last) k) o ∷ none k) ∙ ap (λ x. x ∷ []) (sym cut))

-- the distance of an offset in the last chunk is below the chunk's length
pub last-inside : (vs ws : List View) (v : View) (at i o : ℕ) → vs ≡ ws ++ v ∷ [] → i + 1 ≡ length vs → IsChunkPlace vs at i o
    → o < view_len v
last-inside vs ws v at i o is last place = omega (arith, place.inside, ap (λ (x : View). view_len x) (last-here vs ws v i is last))

-- a deque is the entries that a pop leaves, and then the popped one
pub popped : (ps qs : List Entry) (last : Option Entry) (p : Entry) → ps ≡ qs ++ option_to_list last → last ≡ Some p → ps ≡ qs ++ p ∷ []
popped ps qs last p is some = is ∙ ap (λ x. qs ++ option_to_list x) some

-- an offset in the last chunk is the number of bytes before that chunk, plus the distance in it
pub last-sum : (vs ws : List View) (v : View) (at i o : ℕ) → vs ≡ ws ++ v ∷ [] → i + 1 ≡ length vs → IsChunkPlace vs at i o
    → at ≡ length (pieces_bytes ws) + o
last-sum vs ws v at i o is last place = cc (take-seam ws v i (omega (arith, length-append ws (v ∷ []), ap length is)), place.sum)

first-dropped : (vs : List View) (n : ℕ) → piece_at (drop n vs) 0 ≡ piece_at vs n
first-dropped vs zero = refl
first-dropped [] (suc n) = refl
first-dropped (v ∷ vs) (suc n) = first-dropped vs n

-- the first of the chunks from one on is that one
pub piece-dropped : (ps behind : List Entry) (i : ℕ) → behind ≡ drop i ps → piece_at (views_in behind) 0 ≡ piece_at (views_in ps) i
piece-dropped ps behind i is =
    ap (λ (xs : List Entry). piece_at (views_in xs) 0) is ∙ ap (λ vs. piece_at vs 0) (views-drop i ps) ∙ first-dropped (views_in ps) i

-- a place in a chunk lies before its end where that is the first of those from it on
pub inside-dropped : (ps behind : List Entry) (vs : List View) (at i o : ℕ) → views_in ps ≡ vs → IsChunkPlace vs at i o → behind ≡ drop i ps
    → o < view_len (piece_at (views_in behind) 0)
inside-dropped ps behind vs at i o seen place is =
    omega (arith, place.inside, ap (λ (v : View). view_len v) (piece-dropped ps behind i is), ap (λ ws. view_len (piece_at ws i)) seen)

-- the chunks of a row before the one that holds a place, and the front of that one, if any, are a row, of the chunks up to the place
pub left-row : (b at i o e : ℕ) (ps moved front : List Entry) (vs : List View) (inside : View) → IsRow b ps → views_in ps ≡ vs
    → IsChunkPlace vs at i o
    → (0 < o → inside ≡ view_front (piece_at (views_in ps) i) o) → at < 2 ^ 64 → e ≡ (b + at) % 2 ^ 64 → moved ≡ take i ps
    → front ≡ moved ++ cut_piece inside e o → IsRow b front × (views_in front ≡ left_pieces vs at)
left-row b at i o e ps moved front vs inside h seen there cut fits end before join =
    let place = subst (λ ws. IsChunkPlace ws at i o) (sym seen) there in
    let is : front ≡ take i ps ++ cut_piece inside e o = join ∙ ap (λ (xs : List Entry). xs ++ cut_piece inside e o) before in
    by_lt 0 o (λ some.
    let v = cut some in
    let shown = views-take i ps in
    let len : view_len inside ≡ o = ap (λ (x : View). view_len x) v
    ∙ length-take-le o (piece_at (views_in ps) i).bytes (omega (arith, place.inside)) in
    let sum : length (pieces_bytes (views_in (take i ps))) + view_len inside ≡ at = (λ k. length (pieces_bytes (shown k)) + len k)
    ∙ place.sum in
    let cut_is : front ≡ take i ps ++ record { view = inside; end = e } ∷ [] = is
    ∙ ap (λ xs. take i ps ++ xs) (rw (not_zero o some) refl) in (
      row-push b e (take i ps) front inside (row-take b i ps h) (omega arith) (omega arith)
          (end ∙ ap (λ n. (b + n) % 2 ^ 64) (sym sum)) cut_is,
      cc (views-popped front (take i ps) (record { view = inside; end = e }) cut_is, left-at_place (views_in ps) at i o place some),
    ))
    (λ none.
    let z : o ≡ 0 = omega arith in
    let whole : front ≡ take i ps = is ∙ ap (λ n. take i ps ++ cut_piece inside e n) z ∙ append-nil (take i ps) in (
      subst (IsRow b) (sym whole) (row-take b i ps h),
      cc (views-take i ps, left-at_edge (views_in ps) at i o h.full place z),
    ))

-- A deque is cut at the offset `at`, that is, at the byte `offset` of the chunk `index`. The entries from that chunk on, the first of
-- them without its bytes before the cut, are again a deque. Its base is larger by `at`, and its views are those after the cut.
module _ {base at index offset : ℕ} {entries rest right : List Entry} {views : List View}
    (row : IsRow base entries) (seen : views_in entries ≡ views) (there : IsChunkPlace views at index offset)
    (from : rest ≡ drop index entries) (cut : right ≡ shortened rest offset) where
  pub right-row : IsRow ((base + at) % 2 ^ 64) right × (views_in right ≡ right_pieces views at)
  right-row =
      let place = subst (λ xs. IsChunkPlace xs at index offset) (sym seen) there in
      let all = views_in entries in
      let start = piece_start all index in
      let is : right ≡ shortened (drop index entries) offset = cut ∙ ap (λ (xs : List Entry). shortened xs offset) from in
      let short = inside-dropped entries (drop index entries) views at index offset seen there refl in
      let based = row.based in
      let sum : ((base + start) % 2 ^ 64 + offset) % 2 ^ 64 ≡ (base + at) % 2 ^ 64 = (let s = place.sum in omega arith) in
      let dropped = views-drop index entries ∙ drop-cons all index default_view (index-of_place all at index offset place) in (
        subst (λ n. IsRow n right) sum
            (row-shorten ((base + start) % 2 ^ 64) offset (drop index entries) right (row-drop base index start entries row refl)
            short is),
        ap (λ (xs : List Entry). views_in xs) is ∙ right-shortened (drop index entries) offset short
            ∙ ap (λ xs. right_pieces xs offset) dropped
            ∙ right_pieces-within offset (piece_at all index) (drop (suc index) all) place.inside
            ∙ sym (right-at_place all at index offset place) ∙ ap (λ xs. right_pieces xs at) seen,
      )

-- chunk by chunk, the bytes are those of the views
pub bytes-in : (ps : List Entry) → map (λ (p : Entry). p.view.bytes) ps ≡ map (λ (v : View). v.bytes) (views_in ps)
bytes-in [] = refl
bytes-in (p ∷ ps) = ap (λ rest. p.view.bytes ∷ rest) (bytes-in ps)

-- clones of the chunks of a row from one on, so many, are a row, and its base is moved up by the bytes before them
pub row-run : (b c first n start : ℕ) (ps run : List Entry) (r : ViewRow) → IsRow b ps → views_in ps ≡ r.views
    → start ≡ piece_start r.views first
    → c ≡ (b + start) % 2 ^ 64 → run ≡ take n (drop first ps) → IsRow c run × (views_in run ≡ take n (drop first r.views))
row-run b c first n start ps run r row seen before base is =
    let shown : views_in run ≡ take n (drop first r.views) = cc (views-take n (drop first ps), views-drop first ps) in
    let behind = row-drop b first start ps row (before ∙ ap (λ vs. piece_start vs first) (sym seen)) in
    (subst (IsRow c) (sym is) (row-take c n (drop first ps) (subst (λ m. IsRow m (drop first ps)) (sym base) behind)), shown)
