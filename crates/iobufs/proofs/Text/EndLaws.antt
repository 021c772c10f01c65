-- Stored ends of chunks, counted from a base, and that a row stays one (`IsRow`) where a chunk comes or goes.
use Rattle.iobufs.proofs.Text.Known.{AreEnds, AreFull, IsChunkPlace, IsFirstPast, IsRising, IsRow, IsSearch, List, Entry, View, [], ap, append-nil, arith, drop, ends_from, from_base, get_or, length, length-append, length-drop, length-map, map-append, piece_at, piece_start, pieces_bytes, refl, shortened, slice_index_or, subst, suc, sym, take, take_all, view_advanced, view_len, views_in, zero, zero-add, ℕ, ◌%◌, ◌++◌, ◌+◌, ◌-◌, ◌<◌, ◌^◌, ◌∙◌, ◌∷◌, ◌≡◌, ◌≤◌}
use Rattle.iobufs.proofs.Text.PieceLaws.{AreFull-append, full-behind, full-run}

pub base-up : (e b n : ℕ) → b < 2 ^ 64 → n ≤ from_base b e → from_base ((b + n) % 2 ^ 64) e ≡ from_base b e - n
base-up e b n q l = omega arith

pub base-down : (e b n : ℕ) → b < 2 ^ 64 → n < 2 ^ 64 → from_base b e + n < 2 ^ 64
    → from_base ((b + (2 ^ 64 - n)) % 2 ^ 64) e ≡ from_base b e + n
base-down e b n q r l = omega arith

-- the base itself, seen from a base moved down
pub base-before : (b n : ℕ) → b < 2 ^ 64 → n < 2 ^ 64 → from_base ((b + (2 ^ 64 - n)) % 2 ^ 64) b ≡ n
base-before b n p q = omega arith

pub length-first : (v : View) (vs : List View) → length (pieces_bytes (v ∷ vs)) ≡ view_len v + length (pieces_bytes vs)
length-first v vs = length-append v.bytes (pieces_bytes vs)

-- bytes before the first chunk go
pub ends-up : (b start n : ℕ) (ps : List Entry) → b < 2 ^ 64 → n ≤ start → AreEnds b start ps → AreEnds ((b + n) % 2 ^ 64) (start - n) ps
ends-up b start n [] p l h = tt
ends-up b start n (q ∷ ps) p l (end, others) =
    let first = end.placed in
    let here : from_base ((b + n) % 2 ^ 64) q.end ≡ start - n + view_len q.view = base-up q.end b n p (omega arith) ∙ (omega arith) in
    let same : start + view_len q.view - n ≡ start - n + view_len q.view = omega arith in (
      record { stored = end.stored; placed = here },
      subst (λ m. AreEnds ((b + n) % 2 ^ 64) m ps) same
          (ends-up b (start + view_len q.view) n ps p (omega arith) others),
    )

-- the ends after bytes are added at the front
pub ends-down : (b start n : ℕ) (ps : List Entry) → b < 2 ^ 64 → n < 2 ^ 64 → start + length (pieces_bytes (views_in ps)) + n < 2 ^ 64
    → AreEnds b start ps → AreEnds ((b + (2 ^ 64 - n)) % 2 ^ 64) (start + n) ps
ends-down b start n [] p r l h = tt
ends-down b start n (q ∷ ps) p r l (end, others) =
    let first = end.placed in
    let len = length-first q.view (views_in ps) in
    let here : from_base ((b + (2 ^ 64 - n)) % 2 ^ 64) q.end ≡ start + n + view_len q.view = base-down q.end b n p r (omega arith)
    ∙ (omega arith) in
    let same : start + view_len q.view + n ≡ start + n + view_len q.view = omega arith in (
      record { stored = end.stored; placed = here },
      subst (λ m. AreEnds ((b + (2 ^ 64 - n)) % 2 ^ 64) m ps) same
          (ends-down b (start + view_len q.view) n ps p r (omega arith) others),
    )

-- one chunk more after the others, and several
pub ends-append : (b start : ℕ) (ps qs : List Entry) → AreEnds b start ps → AreEnds b (start + length (pieces_bytes (views_in ps))) qs
    → AreEnds b start (ps ++ qs)
ends-append b start [] qs h g = let z : start + 0 ≡ start = omega arith in subst (λ m. AreEnds b m qs) z g
ends-append b start (p ∷ ps) qs h g = (
  h.0,
  ends-append b (start + view_len p.view) ps qs h.1
      (subst (λ m. AreEnds b m qs) (omega (arith, length-first p.view (views_in ps))) g),
)

pub ends-take : (b start n : ℕ) (ps : List Entry) → AreEnds b start ps → AreEnds b start (take n ps)
ends-take b start zero ps h = tt
ends-take b start (suc n) [] h = tt
ends-take b start (suc n) (p ∷ ps) h = (h.0, ends-take b (start + view_len p.view) n ps h.1)

pub ends-drop : (b start n : ℕ) (ps : List Entry) → AreEnds b start ps → AreEnds b (start + piece_start (views_in ps) n) (drop n ps)
ends-drop b start zero ps h = let z : start + 0 ≡ start = omega arith in subst (λ m. AreEnds b m ps) (sym z) h
ends-drop b start (suc n) [] h = tt
ends-drop b start (suc n) (p ∷ ps) h =
    subst (λ m. AreEnds b m (drop n ps)) (omega (arith, length-first p.view (take n (views_in ps))))
    (ends-drop b (start + view_len p.view) n ps h.1)

-- the i-th end is where the next chunk begins
pub end-at : (b start i : ℕ) (ps : List Entry) → AreEnds b start ps → i < length ps
    → get_or (ends_from b ps) i 0 ≡ start + piece_start (views_in ps) (suc i)
end-at b start i [] h l = absurd (omega arith)
end-at b start zero (p ∷ ps) (end, others) l = end.placed ∙ ap (λ (bytes : List ℕ). start + length bytes) (sym (append-nil p.view.bytes))
end-at b start (suc i) (p ∷ ps) h l =
    let len = length-first p.view (take (suc i) (views_in ps)) in
    end-at b (start + view_len p.view) i ps h.1 (omega arith) ∙ (omega arith)

-- the next chunk begins where this one ends
pub start-next : (vs : List View) (i : ℕ) → i < length vs → piece_start vs (suc i) ≡ piece_start vs i + view_len (piece_at vs i)
start-next [] i l = absurd (omega arith)
start-next (v ∷ vs) zero l = ap length (append-nil v.bytes) ∙ (omega arith)
start-next (v ∷ vs) (suc i) l =
    let a = length-first v (take (suc i) vs) in
    let b = length-first v (take i vs) in
    let ih = start-next vs i (omega arith) in
    omega arith

full-at : (vs : List View) (i : ℕ) → AreFull vs → i < length vs → 0 < view_len (piece_at vs i)
full-at [] i f l = absurd (omega arith)
full-at (v ∷ vs) zero f l = f.0
full-at (v ∷ vs) (suc i) f l = full-at vs i f.1 (omega arith)

starts-rise : (vs : List View) (i n : ℕ) → AreFull vs → i + suc n ≤ length vs → piece_start vs i < piece_start vs (i + suc n)
starts-rise vs i zero f l =
    let s = start-next vs i (omega arith) in
    let p = full-at vs i f (omega arith) in
    let e : i + 1 ≡ suc i = omega arith in rw e (omega arith)
starts-rise vs i (suc n) f l =
    let ih = starts-rise vs i n f (omega arith) in
    let s = start-next vs (i + suc n) (omega arith) in
    let e : i + suc (suc n) ≡ suc (i + suc n) = omega arith in rw e (omega arith)

-- of full chunks a later one begins further on, and the end lies further on than each
pub starts-below : (vs : List View) (i j : ℕ) → AreFull vs → i < j → j ≤ length vs → piece_start vs i < piece_start vs j
starts-below vs i j f l m =
    subst (λ k. piece_start vs i < piece_start vs k) (omega arith) (starts-rise vs i (j - i - 1) f (omega arith))

pub rising-ends : (b : ℕ) (ps : List Entry) → AreEnds b 0 ps → AreFull (views_in ps) → IsRising (ends_from b ps)
rising-ends b ps h f i j l m =
    let n = length-map ps (λ (p : Entry). from_base b p.end) in
    let k = length-map ps (λ (p : Entry). p.view) in
    let p = end-at b 0 i ps h (omega arith) in
    let q = end-at b 0 j ps h (omega arith) in
    let r = starts-below (views_in ps) (suc i) (suc j) f (omega arith) (omega arith) in
    omega arith

-- the last end is after all bytes
pub last-end : (b : ℕ) (ps : List Entry) → 0 < length ps → AreEnds b 0 ps
    → get_or (ends_from b ps) (length ps - 1) 0 ≡ length (pieces_bytes (views_in ps))
last-end b ps l h =
    let k = length-map ps (λ (p : Entry). p.view) in
    let e : suc (length ps - 1) ≡ length ps = omega arith in
    end-at b 0 (length ps - 1) ps h (omega arith)
    ∙ zero-add (piece_start (views_in ps) (suc (length ps - 1)))
    ∙ ap (λ n. piece_start (views_in ps) n) e
    ∙ ap (λ (vs : List View). length (pieces_bytes vs)) (take_all (length ps) (views_in ps) (omega arith))

-- the first end above a place belongs to the chunk that holds it
pub place-first : (b : ℕ) (ps : List Entry) (at i start : ℕ) → AreEnds b 0 ps → IsFirstPast (ends_from b ps) at i
    → start ≡ piece_start (views_in ps) i → (start ≤ at) × IsChunkPlace (views_in ps) at i (at - start)
place-first b ps at i start h first is =
    let n = length-map ps (λ (p : Entry). from_base b p.end) in
    let k = length-map ps (λ (p : Entry). p.view) in
    let l = first.inside in
    let past = first.past in
    let e = end-at b 0 i ps h (omega arith) in
    let next = start-next (views_in ps) i (omega arith) in
    let low : start ≤ at = before i (omega arith) first.before is in
    (low, record { sum = omega arith; inside = omega arith })
  where
    before : (i : ℕ) → i < length ps → ((j : ℕ) → j < i → get_or (ends_from b ps) j 0 ≤ at) → start ≡ piece_start (views_in ps) i
        → start ≤ at
    before zero l all is = omega (arith, is)
    before (suc j) l all is =
        let e = end-at b 0 j ps h (omega arith) in
        let k = all j (omega arith) in omega arith

-- a row after one call
full-push : (vs : List View) (v : View) → AreFull vs → 0 < view_len v → AreFull (vs ++ v ∷ [])
full-push vs v f p = AreFull-append vs (v ∷ []) f (p, tt)

-- where a chunk is the last, its view is the last of the views
pub views-popped : (ps qs : List Entry) (p : Entry) → ps ≡ qs ++ p ∷ [] → views_in ps ≡ views_in qs ++ p.view ∷ []
views-popped ps qs p is = ap (λ (xs : List Entry). views_in xs) is ∙ map-append (λ (q : Entry). q.view) qs (p ∷ [])

-- a row with one more chunk after it, which has bytes and whose end is stored, is a row, where all bytes fit a number
pub row-push : (b e : ℕ) (ps qs : List Entry) (v : View) → IsRow b ps → 0 < view_len v
    → length (pieces_bytes (views_in ps)) + view_len v < 2 ^ 64
    → e ≡ (b + (length (pieces_bytes (views_in ps)) + view_len v)) % 2 ^ 64 → qs ≡ ps ++ record { view = v; end = e } ∷ [] → IsRow b qs
row-push b e ps qs v h some fits ends is =
    let l = length (pieces_bytes (views_in ps)) + view_len v in
    let z : 0 + length (pieces_bytes (views_in ps)) + view_len v ≡ l = omega arith in
    subst (IsRow b) (sym is) (
    record {
      based = h.based;
      ended = ends-append b 0 ps _ h.ended (record { stored = omega arith; placed = (ap (from_base b) ends ∙ omega arith ∙ sym z) }, tt);
      full = subst AreFull (sym (views-popped _ ps (record { view = v; end = e }) refl)) (full-push (views_in ps) v h.full some);
    })

-- a row with one more chunk at the front, which has bytes and ends at the base, is a row from the base moved down by them, where all bytes
-- fit a number
pub row-cons : (b c : ℕ) (ps qs : List Entry) (v : View) → IsRow b ps → 0 < view_len v
    → length (pieces_bytes (views_in ps)) + view_len v < 2 ^ 64
    → c ≡ (b + (2 ^ 64 - view_len v)) % 2 ^ 64 → qs ≡ record { view = v; end = b } ∷ ps → IsRow c qs
row-cons b c ps qs v h some fits base is =
    let n = view_len v in
    let less : n < 2 ^ 64 = omega arith in
    subst (λ (xs : List Entry). IsRow c xs) (sym is) (subst (λ m. IsRow m (record { view = v; end = b } ∷ ps)) (sym base) (
    record {
      based = omega arith;
      ended = (
        record { stored = h.based; placed = (base-before b n h.based less ∙ (omega arith)) },
        ends-down b 0 n ps h.based less (omega arith) h.ended,
      );
      full = (some, h.full);
    }))

-- a row without its first chunk is a row, and its base is the end of that chunk
pub row-pop : (b : ℕ) (p : Entry) (ps qs : List Entry) → IsRow b qs → qs ≡ p ∷ ps → IsRow p.end ps
row-pop b p ps qs h is =
    let g = subst (IsRow b) is h in
    let (end, others) = g.ended in
    let up = ends-up b (0 + view_len p.view) (0 + view_len p.view) ps g.based (omega arith) others in
    record {
      based = end.stored;
      ended = subst (λ m. AreEnds m 0 ps) (sym (omega arith))
          (subst (λ m. AreEnds ((b + (0 + view_len p.view)) % 2 ^ 64) m ps) (omega arith) up);
      full = g.full.1;
    }

-- the views of the first chunks are the first views, and those of the chunks after them the others
pub views-take : (n : ℕ) (ps : List Entry) → views_in (take n ps) ≡ take n (views_in ps)
views-take zero ps = refl
views-take (suc n) [] = refl
views-take (suc n) (p ∷ ps) = ap (λ vs. p.view ∷ vs) (views-take n ps)

-- the views of the chunks after the first ones
pub views-drop : (n : ℕ) (ps : List Entry) → views_in (drop n ps) ≡ drop n (views_in ps)
views-drop zero ps = refl
views-drop (suc n) [] = refl
views-drop (suc n) (p ∷ ps) = views-drop n ps

-- the first chunks of a row are a row from the same base
pub row-take : (b n : ℕ) (ps : List Entry) → IsRow b ps → IsRow b (take n ps)
row-take b n ps h =
    record {
      based = h.based;
      ended = ends-take b 0 n ps h.ended;
      full = subst AreFull (sym (views-take n ps))
          (full-run n (views_in ps) h.full);
    }

-- the chunks of a row from one on are a row, and its base is moved up by the bytes before them
pub row-drop : (b n start : ℕ) (ps : List Entry) → IsRow b ps → start ≡ piece_start (views_in ps) n
    → IsRow ((b + start) % 2 ^ 64) (drop n ps)
row-drop b n start ps h is =
    record {
      based = omega arith;
      ended = subst (λ m. AreEnds ((b + start) % 2 ^ 64) m (drop n ps)) (omega arith)
          (ends-up b (0 + piece_start (views_in ps) n) start (drop n ps) h.based (omega arith) (ends-drop b 0 n ps h.ended));
      full = subst AreFull (sym (views-drop n ps)) (full-behind n (views_in ps) h.full);
    }

-- a row whose first chunk loses fewer bytes than it has is a row, and its base is moved up by them
pub row-shorten : (b n : ℕ) (ps qs : List Entry) → IsRow b ps → n < view_len (piece_at (views_in ps) 0) → qs ≡ shortened ps n
    → IsRow ((b + n) % 2 ^ 64) qs
row-shorten b n [] qs h l is = absurd (omega arith)
row-shorten b n (p ∷ ps) qs h l is =
    let (end, others) = h.ended in
    let d = length-drop n p.view.bytes in
    let here : from_base ((b + n) % 2 ^ 64) p.end ≡ 0 + view_len (view_advanced p.view n) =
    base-up p.end b n h.based (omega (arith, end.placed)) ∙ (omega (arith, end.placed)) in
    let up = ends-up b (0 + view_len p.view) n ps h.based (omega arith) others in
    subst (λ (xs : List Entry). IsRow ((b + n) % 2 ^ 64) xs) (sym is) (
    record {
      based = omega arith;
      ended = (record { stored = end.stored; placed = here }, subst (λ m. AreEnds ((b + n) % 2 ^ 64) m ps) (omega arith) up);
      full = (omega arith, h.full.1);
    })

-- the ends of a deque, and an offset in it, meet the requirements of a search
pub row-search : (b place : ℕ) (ps : List Entry) → IsRow b ps → place < length (pieces_bytes (views_in ps))
    → IsSearch (ends_from b ps) place
row-search b place [] h l = absurd (omega arith)
row-search b place (p ∷ ps) h l =
    let last = last-end b (p ∷ ps) (omega arith) h.ended in
    record {
      rising = rising-ends b (p ∷ ps) h.ended h.full;
      some = omega arith;
      inside = rw (length-map (p ∷ ps) (λ (q : Entry). from_base b q.end)) (omega arith);
    }

-- the end of a chunk, less the base
pub end-of : (b i : ℕ) (ps : List Entry) (p : Entry) → IsRow b ps → i < length ps → p ≡ slice_index_or ps i p
    → from_base b p.end ≡ piece_start (views_in ps) (suc i)
end-of b i ps p h l is = ap (λ (q : Entry). from_base b q.end) is ∙ get-end ps i l ∙ end-at b 0 i ps h.ended l
    ∙ zero-add (piece_start (views_in ps) (suc i))
  where
    get-end : (ps : List Entry) (i : ℕ) → i < length ps → from_base b (slice_index_or ps i p).end ≡ get_or (ends_from b ps) i 0
    get-end [] i l = absurd (omega arith)
    get-end (q ∷ ps) zero l = refl
    get-end (q ∷ ps) (suc i) l = get-end ps i (omega arith)

-- the end of a row's last chunk, less the base, is the number of all bytes
pub end-of_last : (b n : ℕ) (ps : List Entry) (p : Entry) → IsRow b ps → 0 < n → n ≡ length ps → p ≡ slice_index_or ps (n - 1) p
    → from_base b p.end ≡ length (pieces_bytes (views_in ps))
end-of_last b n ps p h l e is =
    let k = length-map ps (λ (p : Entry). p.view) in
    let s : suc (n - 1) ≡ n = omega arith in
    cc (end-of b (n - 1) ps p h (omega arith) is, take_all n (views_in ps) (omega arith))

-- a number holds where the last chunk ends
pub ends-fit : (b start : ℕ) (ps : List Entry) → start < 2 ^ 64 → AreEnds b start ps → start + length (pieces_bytes (views_in ps)) < 2 ^ 64
ends-fit b start [] less ends = omega arith
ends-fit b start (p ∷ ps) less ends =
    let rest = ends-fit b (start + view_len p.view) ps (omega (arith, ends.0.placed)) ends.1 in
    omega (arith, length-append p.view.bytes (pieces_bytes (views_in ps)))
