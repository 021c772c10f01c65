-- A row in the making, and how its gaps are filled.
use Rattle.iobufs.proofs.Text.{AreSegments, AreViews, AreViews-append, IsRow, IsView, List, Entry, Segment, View, [], ap, append-nil, append_assoc, arith, drop, drop-cons, drop-set-lt, eq-eqb, filled, flat_map-append, gap, gap_len, gaps_len, if◌then◌else◌, length, length-append, not_zero, pieces_bytes, refl, row-push, segment_len, segment_of, segments_in, segments_pushed, slice_index_or, slice_set, standing, stood_len, subst, suc, sym, take, take_more_set, view_len, views-popped, views_in, zero, ℕ, ◌++◌, ◌+◌, ◌<◌, ◌==◌, ◌^◌, ◌∙◌, ◌∷◌, ◌≡◌, ◌≤◌}
use Rattle.iobufs.proofs.Building.AddLaws.{added-by}

-- the first segment is not empty, nor are the others
pub segments-first : (s : Segment) (ss : List Segment) → AreSegments (s ∷ ss) → (0 < segment_len s) × AreSegments ss
segments-first (standing v) ss h = (omega (arith, h.0), h.1)
segments-first (gap n) [] h = absurd h
segments-first (gap n) (gap m ∷ ss) h = absurd h
segments-first (gap n) (standing v ∷ ss) (some, stands, others) = (omega (arith, some), (stands, others))

-- one push more
gaps-append : (ss ts : List Segment) → gaps_len (ss ++ ts) ≡ gaps_len ss + gaps_len ts
gaps-append [] ts = omega arith
gaps-append (s ∷ ss) ts = let ih = gaps-append ss ts in omega arith

stood-append : (ss ts : List Segment) → stood_len (ss ++ ts) ≡ stood_len ss + stood_len ts
stood-append [] ts = omega arith
stood-append (s ∷ ss) ts = let ih = stood-append ss ts in omega arith

segments-append : (ss ts : List Segment) → AreSegments ss → AreSegments ts → AreSegments (ss ++ ts)
segments-append [] ts h g = g
segments-append (standing v ∷ ss) ts h g = (h.0, segments-append ss ts h.1 g)
segments-append (gap n ∷ []) ts h g = absurd h
segments-append (gap n ∷ gap m ∷ ss) ts h g = absurd h
segments-append (gap n ∷ standing v ∷ ss) ts (some, stands, others) g = (some, stands, segments-append ss ts others g)

pushed-some : (n : ℕ) (v : View) → 0 < n → segments_pushed n v ≡ gap n ∷ standing v ∷ []
pushed-some n v some = rw (not_zero n some) refl

-- a view pushed after n bytes adds n to those that are to come
pub gaps-push : (ss : List Segment) (n : ℕ) (v : View) → gaps_len (ss ++ segments_pushed n v) ≡ gaps_len ss + n
gaps-push ss zero v = gaps-append ss (segments_pushed 0 v)
gaps-push ss (suc n) v = gaps-append ss (segments_pushed (suc n) v)
    ∙ ap (λ ts. gaps_len ss + gaps_len ts) (pushed-some (suc n) v (omega arith)) ∙ (omega arith)

-- a view that is pushed adds its bytes to those that stand
pub stood-push : (ss : List Segment) (n : ℕ) (v : View) → stood_len (ss ++ segments_pushed n v) ≡ stood_len ss + length v.bytes
stood-push ss zero v = stood-append ss (segments_pushed 0 v) ∙ (omega arith)
stood-push ss (suc n) v = stood-append ss (segments_pushed (suc n) v)
    ∙ ap (λ ts. stood_len ss + stood_len ts) (pushed-some (suc n) v (omega arith))
    ∙ (omega arith)

-- where no segment is empty, none is with a view with bytes pushed after them
pub segments-push : (ss : List Segment) (n : ℕ) (v : View) → AreSegments ss → 0 < length v.bytes → AreSegments (ss ++ segments_pushed n v)
segments-push ss zero v h some = segments-append ss (segments_pushed 0 v) h (some, tt)
segments-push ss (suc n) v h some =
    segments-append ss (segments_pushed (suc n) v) h (subst AreSegments (sym (pushed-some (suc n) v (omega arith))) (omega arith, some, tt))

-- chunks that are done, with so many bytes, and chunks that wait for what is left; together they make these views
pub record IsFilling (all : List View) (done waiting : List Entry) (rest : View) (end : ℕ) : Type 0 where
  pub row : IsRow 0 done
  pub roomy : AreViews (views_in done)
  pub ends : end ≡ length (pieces_bytes (views_in done))
  pub so_far : views_in done ++ filled rest (segments_in waiting) ≡ all
  pub segments : AreSegments (segments_in waiting)
  pub within : gaps_len (segments_in waiting) ≤ length rest.bytes
  pub fits : end + stood_len (segments_in waiting) + length rest.bytes < 2 ^ 64

-- a filling begins with no chunk done, where the gaps want no more bytes than there are to fill them, and all bytes fit a number
pub filling-none : (ps : List Entry) (rest : View) → AreSegments (segments_in ps) → gaps_len (segments_in ps) ≤ length rest.bytes
    → stood_len (segments_in ps) + length rest.bytes < 2 ^ 64 → IsFilling (filled rest (segments_in ps)) [] ps rest 0
filling-none ps rest segments within fits = record {
  row = record { based = omega arith; ended = tt; full = tt };
  roomy = tt;
  ends = refl;
  so_far = refl;
  segments = segments;
  within = within;
  fits = omega (arith, fits);
}

-- one chunk more is done
pub filling-next : (all : List View) (done next waiting : List Entry) (p q : Entry) (rest left : View) (end after : ℕ)
    → IsFilling all done (p ∷ waiting) rest end
    → ((segments : List Segment) → filled rest (segment_of p ∷ segments) ≡ q.view ∷ filled left segments)
    → view_len q.view ≡ segment_len (segment_of p)
    → length left.bytes + gap_len (segment_of p) ≡ length rest.bytes
    → after ≡ end + view_len q.view → q.end ≡ after → IsView q.view → next ≡ done ++ q ∷ [] → IsFilling all next waiting left after
filling-next all done next waiting p q rest left end after h fill len less moved ends view is =
    let first = segments-first (segment_of p) (segments_in waiting) h.segments in
    let old = h.ends in
    let within = h.within in
    let fits = h.fits in
    let views = views-popped next done q is in
    let bytes = ap (λ (vs : List View). length (pieces_bytes vs)) views
    ∙ ap length (flat_map-append (λ (v : View). v.bytes) (views_in done) (q.view ∷ []))
    ∙ length-append (pieces_bytes (views_in done)) (q.view.bytes ++ []) in
    let last = ap length (append-nil q.view.bytes) in
    record {
      row = row-push 0 q.end done next q.view h.row (omega (arith, first.0)) (omega arith) (omega arith) is;
      roomy = subst AreViews (sym views) (AreViews-append (views_in done) (q.view ∷ []) h.roomy (view, tt));
      ends = omega arith;
      so_far = cc (append_assoc (views_in done) (q.view ∷ []) (filled left (segments_in waiting)), fill (segments_in waiting), h.so_far);
      segments = first.1;
      within = omega arith;
      fits = omega arith;
    }

-- the chunk at the index waits first
filling-here : (all : List View) (ps : List Entry) (i : ℕ) (p : Entry) (rest : View) (end : ℕ) → i < length ps → p ≡ slice_index_or ps i p
    → IsFilling all (take i ps) (drop i ps) rest end → IsFilling all (take i ps) (p ∷ drop (i + 1) ps) rest end
filling-here all ps i p rest end inside at h =
    let next : suc i ≡ i + 1 = omega arith in
    subst (λ (w : List Entry). IsFilling all (take i ps) w rest end) (drop-cons ps i p inside ∙ (λ k. sym at k ∷ drop (next k) ps)) h

-- filling a gap of a deque, at the index of a loop that counts up
pub filling-set : (all : List View) (ps : List Entry) (i : ℕ) (p q : Entry) (rest left : View) (end after : ℕ) → i < length ps
    → p ≡ slice_index_or ps i p → IsFilling all (take i ps) (drop i ps) rest end
    → ((segments : List Segment) → filled rest (segment_of p ∷ segments) ≡ q.view ∷ filled left segments)
    → view_len q.view ≡ segment_len (segment_of p)
    → length left.bytes + gap_len (segment_of p) ≡ length rest.bytes
    → after ≡ end + view_len q.view → q.end ≡ after → IsView q.view
    → IsFilling all (take (i + 1) (slice_set ps i q)) (drop (i + 1) (slice_set ps i q)) left after
filling-set all ps i p q rest left end after inside at h fill len less moved ends view =
    subst (λ (w : List Entry). IsFilling all (take (i + 1) (slice_set ps i q)) w left after)
    (sym (drop-set-lt (i + 1) ps i q (omega arith))) (
    filling-next all (take i ps) (take (i + 1) (slice_set ps i q)) (drop (i + 1) ps) p q rest left end after
    (filling-here all ps i p rest end inside at h)
    fill len less moved ends view (take_more_set ps i q inside))

-- the inline bytes that are left suffice for the gap of the next chunk, and the chunk ends below 2 ^ 64
pub filling-first : (all : List View) (ps : List Entry) (i : ℕ) (p : Entry) (rest : View) (end : ℕ) → i < length ps
    → p ≡ slice_index_or ps i p
    → IsFilling all (take i ps) (drop i ps) rest end
    → (gap_len (segment_of p) ≤ length rest.bytes) × (end + segment_len (segment_of p) < 2 ^ 64)
filling-first all ps i p rest end inside at h =
    let g = filling-here all ps i p rest end inside at h in (omega (arith, g.within), omega (arith, g.fits))

-- after the last gap is filled, the bytes that are left follow as the last chunk, if there are any
pub filled-last : (all vs ws : List View) (rest : View) → vs ++ filled rest [] ≡ all
    → ws ≡ (if length rest.bytes == 0 then vs else vs ++ rest ∷ []) → ws ≡ all
filled-last all vs ws rest so_far is =
    added-by vs ws rest is (λ h e.
    let last : filled rest [] ≡ rest ∷ [] = rw (not_zero (length rest.bytes) h) refl in
    e ∙ ap (λ xs. vs ++ xs) (sym last) ∙ so_far)
    (λ h e.
    let last : filled rest [] ≡ [] = rw (eq-eqb (length rest.bytes) 0 h) refl in
    e ∙ sym (append-nil vs) ∙ ap (λ xs. vs ++ xs) (sym last) ∙ so_far)
