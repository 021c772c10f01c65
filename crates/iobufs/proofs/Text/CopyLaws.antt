-- Bytes copied chunk by chunk.
use Rattle.iobufs.proofs.Text.Known.{Err, IsErrAnd, IsOkUnless, List, Ok, Part, Entry, Result, View, [], add-one, ap, append-nil, append_assoc, arith, by_lt, default_view, drop, drop-append-le, drop-cons, drop-drop, drop_at, flat_map-append, length, length-append, length-drop, length-take-le, map, map-append, min, part_put, piece_at, piece_start, pieces_bytes, refl, suc, sym, take, take-append-drop, take-append-le, take_all, take_past, view_len, views_in, zero, ℕ, ◌++◌, ◌+◌, ◌-◌, ◌<◌, ◌∙◌, ◌∷◌, ◌≡◌, ◌≤◌}

-- the bytes from inside a chunk on
pub bytes-from : (ps : List View) (i o : ℕ) → i < length ps → o ≤ view_len (piece_at ps i)
    → drop o (pieces_bytes (drop i ps)) ≡ drop o (piece_at ps i).bytes ++ pieces_bytes (drop (i + 1) ps)
bytes-from ps i o l h = cc (
  drop-cons ps i default_view l,
  add-one i,
  drop-append-le o (piece_at ps i).bytes (pieces_bytes (drop (i + 1) ps)) h,
)

take-both : (m : ℕ) (b rest : List ℕ) → take m (b ++ rest) ≡ take (min (length b) m) b ++ take (m - min (length b) m) rest
take-both m b rest =
    by_lt m (length b) (λ h.
    let k : min (length b) m ≡ m = omega arith in
    let z : m - m ≡ 0 = omega arith in
    rw (k, z) (take-append-le m b rest (omega arith) ∙ sym (append-nil (take m b))))
    (λ h.
    let k : min (length b) m ≡ length b = omega arith in
    rw k (take_past m b rest h ∙ ap (λ xs. xs ++ take (m - length b) rest) (sym (take_all (length b) b (omega arith)))))

-- one turn of a copy: some bytes of a chunk from a place in it on, then the next chunk from its first byte on
pub copied-turn : (ps : List View) (i o m : ℕ) (bytes : List ℕ) → i < length ps → o ≤ view_len (piece_at ps i)
    → bytes ≡ drop o (piece_at ps i).bytes
    → take m (drop o (pieces_bytes (drop i ps))) ≡ take (min (length bytes) m) bytes
    ++ take (m - min (length bytes) m) (pieces_bytes (drop (i + 1) ps))
copied-turn ps i o m bytes l h e =
    rw e (ap (take m) (bytes-from ps i o l h) ∙ take-both m (drop o (piece_at ps i).bytes) (pieces_bytes (drop (i + 1) ps)))

-- these bytes are copied, and the chunks from here on have those that are to come
pub record IsCopied (ps : List View) (i n : ℕ) (copy target : List ℕ) : Type 0 where
  pub some : length copy ≤ n
  pub left : n - length copy ≤ length (pieces_bytes (drop i ps))
  pub so_far : copy ++ take (n - length copy) (pieces_bytes (drop i ps)) ≡ target

-- a copy that goes on with the bytes of a chunk from a place in it on, as many as are wanted, goes on with the next chunk from its first
-- byte on
pub copied-step : (ps : List View) (i o n c k : ℕ) (copy more bytes target : List ℕ) → i < length ps → o ≤ view_len (piece_at ps i)
    → bytes ≡ drop o (piece_at ps i).bytes → c ≤ n → c ≡ length copy → n - c + o ≤ length (pieces_bytes (drop i ps))
    → copy ++ take (n - c) (drop o (pieces_bytes (drop i ps))) ≡ target → k ≡ min (length bytes) (n - c) → more ≡ copy ++ take k bytes →
    IsCopied ps (i + 1) n more target
copied-step ps i o n c k copy more bytes target l h b s e r t m x =
    let rest = pieces_bytes (drop (i + 1) ps) in
    let whole : drop o (pieces_bytes (drop i ps)) ≡ bytes ++ rest = bytes-from ps i o l h ∙ ap (λ xs. xs ++ rest) (sym b) in
    let total : length (pieces_bytes (drop i ps)) - o ≡ length bytes + length rest =
    sym (length-drop o (pieces_bytes (drop i ps))) ∙ ap length whole ∙ length-append bytes rest in
    let some : length (take k bytes) ≡ k = length-take-le k bytes (omega arith) in
    let longer : length more ≡ c + k = ap length x ∙ length-append copy (take k bytes)
    ∙ (let q : length copy + length (take k bytes) ≡ c + k = omega arith in q) in
    let left : n - length more ≡ n - c - k = omega arith in
    let turn : take (n - c) (drop o (pieces_bytes (drop i ps))) ≡ take k bytes ++ take (n - c - k) rest =
    copied-turn ps i o (n - c) bytes l h b ∙ ap (λ j. take j bytes ++ take (n - c - j) rest) (sym m) in
    record {
      some = omega arith;
      left = omega arith;
      so_far = cc (append_assoc copy (take k bytes) (take (n - c - k) rest));
    }

-- a slice from a place on
pub slice_from : (o : ℕ) (b : List ℕ) → take (length b - o) (drop o b) ≡ drop o b
slice_from o b = take_all (length b - o) (drop o b) (let n = length-drop o b in omega arith)

-- so many bytes of a slice are filled, and the chunks from here on have those that are to come
pub record IsFilled (ps : List View) (i filled : ℕ) (dst target : List ℕ) : Type 0 where
  pub some : filled ≤ length dst
  pub left : length dst - filled ≤ length (pieces_bytes (drop i ps))
  pub so_far : take filled dst ++ take (length dst - filled) (pieces_bytes (drop i ps)) ≡ target

-- a destination that is filled up to a chunk, with as much of that chunk as fits put after, is filled up to the next chunk
pub filled-step : (ps : List View) (i o f k : ℕ) (dst now bytes target : List ℕ) → i < length ps → o ≤ view_len (piece_at ps i)
    → bytes ≡ drop o (piece_at ps i).bytes → f ≤ length dst → length dst - f + o ≤ length (pieces_bytes (drop i ps))
    → take f dst ++ take (length dst - f) (drop o (pieces_bytes (drop i ps))) ≡ target → k ≡ min (length bytes) (length dst - f)
    → length now ≡ length dst
    → take (f + k) now ≡ take f dst ++ take k bytes → IsFilled ps (i + 1) (f + k) now target
filled-step ps i o f k dst now bytes target l h b s r t m same x =
    let rest = pieces_bytes (drop (i + 1) ps) in
    let total : length (pieces_bytes (drop i ps)) - o ≡ length bytes + length rest =
    sym (length-drop o (pieces_bytes (drop i ps))) ∙ ap length (bytes-from ps i o l h ∙ ap (λ xs. xs ++ rest) (sym b))
    ∙ length-append bytes rest in
    let turn : take (length dst - f) (drop o (pieces_bytes (drop i ps))) ≡ take k bytes ++ take (length dst - f - k) rest =
    copied-turn ps i o (length dst - f) bytes l h b ∙ ap (λ j. take j bytes ++ take (length dst - f - j) rest) (sym m) in
    record {
      some = omega arith;
      left = omega arith;
      so_far = ap (λ j. take (f + k) now ++ take j rest) (omega arith) ∙ ap (λ xs. xs ++ take (length dst - f - k) rest) x
          ∙ append_assoc (take f dst) (take k bytes) (take (length dst - f - k) rest) ∙ ap (λ xs. take f dst ++ xs) (sym turn) ∙ t;
    }

-- the bytes from a place on, seen from its chunk and from the front
pub from-place : (ps : List View) (at i o : ℕ) → piece_start ps i + o ≡ at → drop o (pieces_bytes (drop i ps)) ≡ drop at (pieces_bytes ps)
from-place ps at i o e =
    let front = pieces_bytes (take i ps) in
    let behind = pieces_bytes (drop i ps) in
    let whole : front ++ behind ≡ pieces_bytes ps = cc
    (flat_map-append (λ (v : View). v.bytes) (take i ps) (drop i ps), take-append-drop i ps) in
    cc (drop_at front behind (length front) refl, drop-drop o (length front) (front ++ behind))

chunk-next : (ps : List View) (i : ℕ) → i < length ps
    → take (suc i) (map (λ (p : View). p.bytes) ps) ≡ take i (map (λ (p : View). p.bytes) ps)
    ++ (piece_at ps i).bytes ∷ []
chunk-next [] i l = absurd (omega arith)
chunk-next (p ∷ ps) zero l = refl
chunk-next (p ∷ ps) (suc i) l = ap (λ rest. p.bytes ∷ rest) (chunk-next ps i (omega arith))

-- one more chunk
pub chunks-step : {B : Type 0} (now : B → List ℕ) (chunks more : List B) (chunk : B) (ps : List View) (i : ℕ) → i < length ps
    → map now chunks ≡ take i (map (λ (p : View). p.bytes) ps) → now chunk ≡ (piece_at ps i).bytes → more ≡ chunks ++ chunk ∷ []
    → map now more ≡ take (i + 1) (map (λ (p : View). p.bytes) ps)
chunks-step now chunks more chunk ps i l h b m = cc (map-append now chunks (chunk ∷ []), chunk-next ps i l, add-one i)

-- a refusal by its cause
pub only-cause : {A E : Type 0} (result : Result A E) (e cause : E) → IsErrAnd result (λ x. x ≡ e) → e ≡ cause → IsOkUnless result cause
only-cause (Ok a) e cause h same = absurd h
only-cause (Err x) e cause h same = h ∙ same

-- the first of the chunks that are left is put after what is copied
pub put-step : (left rest : List Entry) (item : Entry) (copy more target : List ℕ) → left ≡ item ∷ rest
    → copy ++ pieces_bytes (views_in left) ≡ target → more ≡ copy ++ item.view.bytes → more ++ pieces_bytes (views_in rest) ≡ target
put-step left rest item copy more target is s m =
    let bytes = pieces_bytes (views_in rest) in
    ap (λ xs. xs ++ bytes) m ∙ append_assoc copy item.view.bytes bytes
    ∙ ap (λ (qs : List Entry). copy ++ pieces_bytes (views_in qs)) (sym is) ∙ s

-- the first chunk fits if all that are left fit
pub put-fits : (left rest : List Entry) (item : Entry) (copy target : List ℕ) (spare : ℕ) → left ≡ item ∷ rest
    → copy ++ pieces_bytes (views_in left) ≡ target → length target ≤ length copy + spare → length item.view.bytes ≤ spare
put-fits left rest item copy target spare is s l =
    let bytes = pieces_bytes (views_in rest) in
    let n = ap length (ap (λ (qs : List Entry). copy ++ pieces_bytes (views_in qs)) (sym is) ∙ s) in
    omega (arith, length-append copy (item.view.bytes ++ bytes), length-append item.view.bytes bytes)

-- bytes put in turn are put at once
pub put-both : (part : Part) (a b : List ℕ) → part_put (part_put part a) b ≡ part_put part (a ++ b)
put-both part a b i = record { filled = append_assoc part.filled a b i; spare = less i }
  where
    less : part.spare - length a - length b ≡ part.spare - length (a ++ b)
    less = omega (arith, length-append a b)

-- the bytes of chunks in two slices
pub joined-pieces : (front behind ps : List Entry) → front ++ behind ≡ ps
    → pieces_bytes (views_in front) ++ pieces_bytes (views_in behind) ≡ pieces_bytes (views_in ps)
joined-pieces front behind ps e =
    cc (flat_map-append (λ (v : View). v.bytes) (views_in front) (views_in behind), map-append (λ (p : Entry). p.view) front behind)
