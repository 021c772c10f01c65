-- The chunks that a reader of several chunks sees, and the bytes that it takes.
use Rattle.iobufs.proofs.Text.Known.{AreFull, AreViews, advanced_pieces, Err, Excluded, IfOk, Included, Inside, IsChunkOf, IsChunkPlace, IsPieces, List, MarkedText, Ok, Result, Some, View, [], add-one, ap, append-nil, arith, behind_first, by_lt, common_steps, default_view, drop, drop-take, false, false≢true, first_chunk, flat_map-append, get_or, is_single, length, length-append, length-drop, length-take-le, map, nat_eq, nat_tests, native_mark, nil_from_length, of_pieces, of_view, part_frozen, piece_at, piece_start, pieces_bytes, refl, rest_pieces, right_pieces, slice_get, subst, suc, sym, take, take-append-drop, take-append_seam, take_all, taken_view, tests, text_chunks, text_coalesced, text_len, text_of, text_rest, text_advanced, text_right, true, view_advanced, view_len, view_slice, zero, zero-add, ℕ, ◌++◌, ◌+◌, ◌-◌, ◌<◌, ◌∙◌, ◌∷◌, ◌≡◌, ◌≤◌}
use Rattle.iobufs.proofs.Text.ChunkLaws.{chunks-of_empty}
use Rattle.iobufs.proofs.Text.KeptLaws.{AreViews-rest, HasRoom-on}
use Rattle.iobufs.proofs.Text.CopyLaws.{bytes-from}
use Rattle.iobufs.proofs.Text.PieceLaws.{is_single-of_pieces, AreFull-from_pieces, bytes-of_pieces, front-all, len-of_pieces, length-bytes, of_pieces-one, rest-all, rest_pieces-all, rest_pieces-inside, right-of_pieces, right_pieces-none, right_pieces-past}
use Rattle.iobufs.proofs.Text.PlaceLaws.{index-of_place, right-at_place}
use Rattle.iobufs.proofs.Text.TakenLaws.{taken_view-across, taken_view-right, taken_view-within}
use Rattle.iobufs.proofs.Text.TextLaws.{advanced-one, chunks-kept, rest-kept, single-kept, single-more, some_views}

-- the first chunk is the first chunk, and a beginning of the text
pub first-of : (vs : List View) (t : MarkedText) → of_pieces vs ≡ t → 0 < length vs → (0 < length (pieces_bytes vs) → AreFull vs)
    → (piece_at vs 0).bytes ≡ first_chunk (text_chunks t)
first-of [] t e l f = absurd (omega arith)
first-of (v ∷ vs) t e l f =
    let n = length-bytes v vs in
    let s : text_len t ≡ length (pieces_bytes (v ∷ vs)) = sym (ap text_len e) ∙ len-of_pieces (v ∷ vs) in
    by_lt 0 (length (pieces_bytes (v ∷ vs))) (λ h. sym (ap first_chunk (chunks-kept (v ∷ vs) t e l (f h))))
    (λ h. nil_from_length v.bytes (omega arith) ∙ sym (ap first_chunk (chunks-of_empty t (omega arith))))

-- the bytes of a text's first chunk are its first chunk
pub first-kept : (vs : List View) (t : MarkedText) → of_pieces vs ≡ t → IsPieces vs → (piece_at vs 0).bytes ≡ first_chunk (text_chunks t)
first-kept vs t e h = first-of vs t e (some_views vs h) (AreFull-from_pieces vs h)

front-of : (vs : List View) → 0 < length vs → (0 < length (pieces_bytes vs) → AreFull vs)
    → IsChunkOf (piece_at vs 0).bytes (pieces_bytes vs)
front-of [] l f = absurd (omega arith)
front-of (v ∷ vs) l f =
    record {
      front = sym (take-append_seam v.bytes (pieces_bytes vs));
      some = λ z. by_lt 0 (length (pieces_bytes (v ∷ vs))) (λ h. let g = (f h).0 in absurd (omega (arith, length-bytes v vs)))
          (λ h. omega arith);
    }

-- the bytes of a text's first chunk are a chunk of it
pub front-chunk : (vs : List View) (t : MarkedText) (chunk : List ℕ) → of_pieces vs ≡ t → IsPieces vs → chunk ≡ (piece_at vs 0).bytes
    → IsChunkOf chunk t.bytes
front-chunk vs t chunk e h c =
    let b : pieces_bytes vs ≡ t.bytes = sym (bytes-of_pieces vs) ∙ ap (λ (x : MarkedText). x.bytes) e in
    rw c (subst (IsChunkOf (piece_at vs 0).bytes) b (front-of vs (some_views vs h) (AreFull-from_pieces vs h)))

-- the byte at a place
get-within : (xs ys : List ℕ) (n : ℕ) → n < length xs → slice_get (xs ++ ys) n ≡ Some (get_or xs n 0)
get-within [] ys n l = absurd (omega arith)
get-within (x ∷ xs) ys zero l = refl
get-within (x ∷ xs) ys (suc n) l = get-within xs ys n (omega arith)

get-past : (xs ys : List ℕ) (m n : ℕ) → m ≡ length xs + n → slice_get (xs ++ ys) m ≡ slice_get ys n
get-past [] ys m n e = ap (slice_get ys) (e ∙ zero-add n)
get-past (x ∷ xs) ys zero n e = absurd (omega arith)
get-past (x ∷ xs) ys (suc m) n e = get-past xs ys m n (omega arith)

-- the byte at a place is that of its chunk, so far in it
pub byte-at_place : (vs : List View) (at i o : ℕ) → IsChunkPlace vs at i o
    → slice_get (pieces_bytes vs) at ≡ Some (get_or (piece_at vs i).bytes o 0)
byte-at_place vs at i o h = at_index vs at i h.sum h.inside
  where
    at_index : (vs : List View) (at i : ℕ) → piece_start vs i + o ≡ at → o < view_len (piece_at vs i)
        → slice_get (pieces_bytes vs) at ≡ Some (get_or (piece_at vs i).bytes o 0)
    at_index [] at i s l = absurd (omega arith)
    at_index (v ∷ vs) at zero s l = let e : at ≡ o = omega arith in rw e (get-within v.bytes (pieces_bytes vs) o l)
    at_index (v ∷ vs) at (suc i) s l =
        let n : piece_start (v ∷ vs) (suc i) ≡ view_len v + piece_start vs i = length-append v.bytes (pieces_bytes (take i vs)) in
        get-past v.bytes (pieces_bytes vs) at (piece_start vs i + o) (omega arith) ∙ at_index vs (piece_start vs i + o) i refl l

-- the bytes from a chunk on
pub rest-length : (vs : List View) (i : ℕ) → piece_start vs i + length (pieces_bytes (drop i vs)) ≡ length (pieces_bytes vs)
rest-length vs i =
    sym (length-append (pieces_bytes (take i vs)) (pieces_bytes (drop i vs)))
    ∙ ap length (sym (flat_map-append (λ (v : View). v.bytes) (take i vs) (drop i vs)))
    ∙ ap (λ (ws : List View). length (pieces_bytes ws)) (take-append-drop i vs)

right-place : (vs : List View) (t : MarkedText) (skip i o : ℕ) → of_pieces vs ≡ t → IsChunkPlace vs skip i o
    → skip < length (pieces_bytes vs)
    → text_right t skip ≡ of_pieces (view_advanced (piece_at vs i) o ∷ drop (suc i) vs)
right-place vs t skip i o e h l =
    ap (λ (x : MarkedText). text_right x skip) (sym e) ∙ right-of_pieces skip vs l ∙ ap of_pieces (right-at_place vs skip i o h)

-- bytes inside one chunk are taken as a slice of it
pub taken-within : (vs : List View) (t : MarkedText) (skip n i o : ℕ) → of_pieces vs ≡ t → IsChunkPlace vs skip i o
    → skip < length (pieces_bytes vs)
    → 0 < n → n ≤ view_len (piece_at vs i) - o → view_slice (piece_at vs i) (Included o) (Excluded (o + n)) ≡ taken_view t skip n
taken-within vs t skip n i o e h l p m =
    let v = view_advanced (piece_at vs i) o in
    sym (taken_view-right skip n t ∙ ap (λ (x : MarkedText). taken_view x 0 n) (right-place vs t skip i o e h l)
    ∙ taken_view-within n v (drop (suc i) vs) p (omega (arith, length-drop o (piece_at vs i).bytes))
    ∙ (grind (arith, nat_tests, common_steps, drop-take)))

-- bytes that span chunks are taken as a copy without spare bytes, frozen
pub taken-across : (vs : List View) (t : MarkedText) (skip n i o : ℕ) (copy : List ℕ) → of_pieces vs ≡ t → IsChunkPlace vs skip i o
    → skip + n ≤ length (pieces_bytes vs) → view_len (piece_at vs i) - o < n → copy ≡ take n (drop o (pieces_bytes (drop i vs)))
    → part_frozen (record { filled = copy; spare = 0 }) ≡ taken_view t skip n
taken-across vs t skip n i o copy e h l m c =
    let inside = h.inside in
    let v = view_advanced (piece_at vs i) o in
    let k : view_len v ≡ view_len (piece_at vs i) - o = length-drop o (piece_at vs i).bytes in
    let whole : drop o (pieces_bytes (drop i vs)) ≡ pieces_bytes (v ∷ drop (suc i) vs) =
    bytes-from vs i o (index-of_place vs skip i o h) (omega arith)
    ∙ ap (λ j. drop o (piece_at vs i).bytes ++ pieces_bytes (drop j vs)) (add-one i) in
    let rest = rest-length vs i in
    let sum = h.sum in
    let left = length-drop o (pieces_bytes (drop i vs)) in
    let size : length copy ≡ n = ap length c ∙ length-take-le n (drop o (pieces_bytes (drop i vs))) (omega arith) in
    frozen copy n size (omega arith) ∙ (λ j. record { bytes = (c ∙ ap (take n) whole) j; mark = native_mark n })
    ∙ sym (taken_view-right skip n t ∙ ap (λ (x : MarkedText). taken_view x 0 n) (right-place vs t skip i o e h (omega arith))
    ∙ taken_view-across n v (drop (suc i) vs) (omega arith) (omega arith) (omega (arith, ap length whole)))
  where
    frozen : (copy : List ℕ) (n : ℕ) → length copy ≡ n → 0 < n
        → part_frozen (record { filled = copy; spare = 0 }) ≡ record { bytes = copy; mark = native_mark n }
    frozen copy n e p = grind (arith, nat_tests, common_steps)

-- the first bytes
pub bytes-taken : (t : MarkedText) (n : ℕ) → (taken_view t 0 n).bytes ≡ take n t.bytes
unfolding taken_view
bytes-taken t n = grind (arith, nat_tests, common_steps)

-- the first chunk, taken as it is, and what it leaves
pub first-whole : (vs : List View) (t : MarkedText) (n : ℕ) → of_pieces vs ≡ t → 0 < n → n ≡ view_len (piece_at vs 0)
    → taken_view t 0 n ≡ piece_at vs 0
first-whole [] t n e p w = absurd (omega arith)
first-whole (v ∷ vs) t n e p w = sym (ap (λ (x : MarkedText). taken_view x 0 n) e) ∙ taken_view-within n v vs p (omega arith)
    ∙ front-all n v (omega arith)

-- a text whose first chunk goes, as many bytes as that has, leaves the chunks after it, or the default view where it was the only one
pub first-rest : (vs ws : List View) (t : MarkedText) (n : ℕ) → of_pieces vs ≡ t → AreFull vs → 0 < n → n ≡ view_len (piece_at vs 0)
    → ws ≡ behind_first vs → of_pieces ws ≡ text_rest t n
first-rest [] ws t n e f p w is = absurd (omega arith)
first-rest (v ∷ []) ws t n e f p w is =
    ap of_pieces is ∙ of_pieces-one default_view ∙ sym (rest-all n t p (w ∙ ap text_len (sym (of_pieces-one v) ∙ e)))
first-rest (v ∷ u ∷ vs) ws t n e (first, behind) p w is =
    let right = right_pieces-past n v (u ∷ vs) (omega arith) ∙ ap (right_pieces (u ∷ vs)) (omega arith)
    ∙ right_pieces-none (u ∷ vs) behind in
    let l = length-bytes v (u ∷ vs) in
    let m = length-bytes u vs in
    rest-kept (v ∷ u ∷ vs) ws t n e p (omega (arith, behind.0)) (is ∙ sym right)

-- a text whose first bytes go leaves the chunks from there on, or the default view where all go
pub dropped-rest : (vs ws : List View) (t : MarkedText) (n : ℕ) → of_pieces vs ≡ t → 0 < n → n ≤ length (pieces_bytes vs)
    → ws ≡ rest_pieces vs n
    → of_pieces ws ≡ text_rest t n
dropped-rest vs ws t n e p l is =
    by_lt n (length (pieces_bytes vs)) (λ h. rest-kept vs ws t n e p h (is ∙ rest_pieces-inside n vs h))
    (λ h.
    let whole : n ≡ text_len t = omega (arith, len-of_pieces vs, ap text_len e) in
    ap of_pieces (is ∙ rest_pieces-all n vs (omega arith)) ∙ of_pieces-one default_view ∙ sym (rest-all n t p whole))

-- all bytes are as many as those of the first chunk and of the chunks after it
pub length-behind : (vs : List View) → length (pieces_bytes vs) ≡ view_len (piece_at vs 0) + length (pieces_bytes (behind_first vs))
length-behind [] = refl
length-behind (v ∷ []) = ap length (append-nil v.bytes) ∙ (omega arith)
length-behind (v ∷ w ∷ vs) = length-bytes v (w ∷ vs)

-- where chunks have room for their bytes, so have those after the first
pub AreViews-behind : (vs : List View) → AreViews vs → AreViews (behind_first vs)
AreViews-behind [] h = tt
AreViews-behind (v ∷ []) h = (tt, tt)
AreViews-behind (v ∷ w ∷ vs) h = h.1

-- a text of one chunk
pub one-piece : (s : Inside) (t : MarkedText) → text_of s ≡ t → IsPieces s.pieces → is_single t ≡ true → length s.pieces ≡ 1
one-piece s t e k h = is_one (length s.pieces) (sym (single-kept s t e k) ∙ h)
  where
    is_one : (n : ℕ) → nat_eq n 1 ≡ true → n ≡ 1
    is_one n h = grind (arith, tests)

pub one-as : (vs : List View) → length vs ≡ 1 → vs ≡ piece_at vs 0 ∷ []
one-as [] e = absurd (omega arith)
one-as (v ∷ []) e = refl
one-as (v ∷ w ∷ vs) e = absurd (omega arith)

-- several chunks as one
pub coalesced-copy : (vs : List View) (t : MarkedText) (copy : List ℕ) (n : ℕ) → of_pieces vs ≡ t → is_single t ≡ false
    → n ≡ length (pieces_bytes vs) → 0 < n → copy ≡ take n (pieces_bytes vs)
    → of_view (part_frozen (record { filled = copy; spare = 0 })) ≡ text_coalesced t
coalesced-copy vs t copy n e single k p c =
    let b : pieces_bytes vs ≡ t.bytes = sym (bytes-of_pieces vs) ∙ ap (λ (x : MarkedText). x.bytes) e in
    let all : copy ≡ t.bytes = c ∙ take_all n (pieces_bytes vs) (omega arith) ∙ b in
    let size : length t.bytes ≡ n = sym (ap length b) ∙ sym k in
    ap (λ (x : List ℕ). of_view (part_frozen (record { filled = x; spare = 0 }))) all ∙ rw single (frozen t.bytes (omega arith))
  where
    frozen : (bytes : List ℕ) → 0 < length bytes → of_view (part_frozen (record { filled = bytes; spare = 0 }))
        ≡ of_view (record { bytes = bytes; mark = native_mark (length bytes) })
    frozen bytes p = grind (arith, nat_tests, common_steps)

-- an empty text shows nothing, however much is asked for
pub none-shown : {B : Type 0} (now : B → List ℕ) (items : List B) (t : MarkedText) (max : ℕ) → items ≡ [] → text_len t ≡ 0
    → map now items ≡ take max (text_chunks t)
none-shown now items t max e z = ap (map now) e ∙ sym (ap (take max) (chunks-of_empty t z) ∙ none max)
  where
    none : (n : ℕ) → take {A = List ℕ} n [] ≡ []
    none zero = refl
    none (suc n) = refl

-- a call that returns view a returns view b, if a and b are equal
pub as_view : {E : Type 0} (result : Result View E) (a b : View) → a ≡ b → IfOk result (λ v. v ≡ a) → IfOk result (λ v. v ≡ b)
as_view result a b e h = subst (λ x. IfOk result (λ v. v ≡ x)) e h

-- a view that a call answers makes the text that it makes by itself
pub as_text : {E : Type 0} (result : Result View E) (a : View) (t : MarkedText) → of_view a ≡ t → IfOk result (λ v. v ≡ a)
    → IfOk result (λ v. of_view v ≡ t)
as_text (Ok v) a t e h = ap of_view h ∙ e
as_text (Err error) a t e h = tt

-- a single text is one chunk at most, and the view that this chunk is
pub only-view : (vs : List View) (t : MarkedText) → of_pieces vs ≡ t → is_single t ≡ true
    → (length vs ≤ 1) × (record { bytes = t.bytes; mark = t.mark } ≡ piece_at vs 0)
unfolding of_pieces
only-view [] t e h = (omega arith, ap (λ (x : MarkedText). record { bytes = x.bytes; mark = x.mark }) (sym e))
only-view (v ∷ []) t e h = (omega arith, ap (λ (x : MarkedText). record { bytes = x.bytes; mark = x.mark }) (sym e ∙ of_pieces-one v))
only-view (v ∷ w ∷ vs) t e h = absurd (false≢true (sym (single-more (v ∷ w ∷ vs) t e (omega arith)) ∙ h))

-- a text whose first bytes go, and of which a single chunk stays
pub advanced-kept : (vs ws : List View) (t : MarkedText) (n : ℕ) → of_pieces vs ≡ t → IsPieces vs → n ≤ length (pieces_bytes vs)
    → ws ≡ advanced_pieces vs n
    → of_pieces ws ≡ text_advanced t n
advanced-kept [] ws t n e h l is = absurd h
advanced-kept (v ∷ []) ws t n e h l is = ap of_pieces is ∙ advanced-one v t n e (omega (arith, l, length-bytes v []))
advanced-kept (v ∷ w ∷ vs) ws t zero e h l is =
    let some = h.0 in
    let same = ap of_pieces (is ∙ rest_pieces-inside 0 (v ∷ w ∷ vs) (omega (arith, some, length-bytes v (w ∷ vs)))
    ∙ right_pieces-none (v ∷ w ∷ vs) h) ∙ e in
    same ∙ (rw (single-more (v ∷ w ∷ vs) t e (omega arith)) refl)
advanced-kept (v ∷ w ∷ vs) ws t (suc n) e h l is =
    let rest : text_rest t (suc n) ≡ text_advanced t (suc n) = rw (single-more (v ∷ w ∷ vs) t e (omega arith)) refl in
    dropped-rest (v ∷ w ∷ vs) ws t (suc n) e (omega arith) l is ∙ rest

-- where chunks have room for their bytes, so have those that `advance` leaves
pub AreViews-advanced : (n : ℕ) (vs : List View) → AreViews vs → AreViews (advanced_pieces vs n)
AreViews-advanced n [] f = tt
AreViews-advanced n (v ∷ []) f = ((rw (length-drop n v.bytes) (HasRoom-on v.mark (view_len v) n f.0)), tt)
AreViews-advanced n (v ∷ w ∷ vs) f = AreViews-rest n (v ∷ w ∷ vs) f

-- a single chunk is its text as one chunk
pub coalesced-one : (v : View) (t : MarkedText) → of_pieces (v ∷ []) ≡ t → of_view v ≡ text_coalesced t
coalesced-one v t e = rw (sym (ap is_single e) ∙ is_single-of_pieces v []) (sym (of_pieces-one v) ∙ e)

-- where chunks are one, that is the first, and nothing is after it
pub one-popped : (vs ws : List View) (v : View) → vs ≡ v ∷ ws → length vs ≡ 1 → vs ≡ v ∷ []
one-popped vs [] v is l = is
one-popped vs (w ∷ ws) v is l = absurd (omega (arith, l, ap (λ (xs : List View). length xs) is))

-- where the text of chunks isn't single, they are more than one
pub several-more : (vs : List View) (t : MarkedText) → of_pieces vs ≡ t → 0 < length vs → is_single t ≡ false → 1 < length vs
several-more [] t e l h = absurd (omega arith)
several-more (v ∷ []) t e l h = absurd (false≢true (sym h ∙ sym (ap is_single e) ∙ is_single-of_pieces v []))
several-more (v ∷ w ∷ vs) t e l h = omega arith
