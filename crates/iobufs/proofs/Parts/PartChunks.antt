-- The bytes of parts, as a reader sees them chunk by chunk.
use Rattle.iobufs.proofs.Text.{IsChunkOf, List, Part, [], ap, append-nil, append_assoc, arith, by_lt, first_chunk, full_chunks, length, length-append, length-take, map, nil_from_length, parts_chunks, parts_filled, refl, slice_get, suc, sym, take, take-append-le, take-nil, take_all, take_both, zero, ℕ, ◌++◌, ◌-◌, ◌<◌, ◌∙◌, ◌∷◌, ◌≡◌, ◌≤◌}

-- one part holds its bytes
pub filled-one : (p : Part) → parts_filled (p ∷ []) ≡ p.filled
filled-one p = append-nil p.filled

-- a part without bytes is no chunk
pub chunks-empty : (p : Part) (parts : List Part) → length p.filled ≡ 0 → parts_chunks (p ∷ parts) ≡ parts_chunks parts
chunks-empty p parts e = ap (λ bytes. full_chunks (bytes ∷ map (λ (q : Part). q.filled) parts)) (nil_from_length p.filled e)

full_first : (bytes : List ℕ) (texts : List (List ℕ)) → 0 < length bytes → full_chunks (bytes ∷ texts) ≡ bytes ∷ full_chunks texts
full_first [] texts h = absurd (omega arith)
full_first (byte ∷ bytes) texts h = refl

-- the bytes of a first part that has some are the first chunk, and the others' chunks follow it
pub chunks-full : (p : Part) (parts : List Part) → 0 < length p.filled → parts_chunks (p ∷ parts) ≡ p.filled ∷ parts_chunks parts
chunks-full p parts h = full_first p.filled (map (λ q. q.filled) parts) h

-- the chunks of two rows
pub chunks-both : (ps qs : List Part) → parts_chunks (ps ++ qs) ≡ parts_chunks ps ++ parts_chunks qs
chunks-both [] qs = refl
chunks-both (p ∷ ps) qs =
    by_lt 0 (length p.filled) (λ h. cc (chunks-full p (ps ++ qs) h, chunks-both ps qs, chunks-full p ps h))
    (λ h. cc (chunks-empty p (ps ++ qs) (omega arith), chunks-both ps qs, chunks-empty p ps (omega arith)))

-- parts without bytes show no chunk, however many are asked for
pub chunks-none : (parts : List Part) → length (parts_filled parts) ≡ 0 → parts_chunks parts ≡ []
chunks-none [] h = refl
chunks-none (p ∷ parts) h =
    let both = length-append p.filled (parts_filled parts) in
    chunks-empty p parts (omega (arith, both, h)) ∙ chunks-none parts (omega (arith, both, h))

pub none-taken : (parts : List Part) (max : ℕ) → length (parts_filled parts) ≡ 0 → take max (parts_chunks parts) ≡ []
none-taken parts max h = ap (take max) (chunks-none parts h) ∙ take-nil max

-- bytes that are not none are a beginning of what they begin
chunk_front : (bytes rest : List ℕ) → 0 < length bytes → IsChunkOf bytes (bytes ++ rest)
chunk_front bytes rest h = record {
  front = sym (take-append-le (length bytes) bytes rest (omega arith) ∙ take_all (length bytes) bytes (omega arith));
  some = λ e. absurd (omega arith);
}

-- the first chunk is a beginning of the filled bytes
pub first_chunk-front : (parts : List Part) → IsChunkOf (first_chunk (parts_chunks parts)) (parts_filled parts)
first_chunk-front [] = record { front = refl; some = λ e. refl }
first_chunk-front (p ∷ parts) =
    by_lt 0 (length p.filled) (λ h. rw (chunks-full p parts h) (chunk_front p.filled (parts_filled parts) h))
    (λ h. let none : p.filled ≡ [] = nil_from_length p.filled (omega arith) in rw none (first_chunk-front parts))

-- the byte at a place, in a part or after it
pub byte_in : (bytes rest : List ℕ) (at : ℕ) → at < length bytes → slice_get (bytes ++ rest) at ≡ slice_get bytes at
byte_in [] rest at h = absurd (omega arith)
byte_in (byte ∷ bytes) rest zero h = refl
byte_in (byte ∷ bytes) rest (suc at) h = byte_in bytes rest at (omega arith)

-- at a place after the first bytes stands a byte of the others, so much nearer to their front
pub byte_behind : (bytes rest : List ℕ) (at : ℕ) → length bytes ≤ at → slice_get (bytes ++ rest) at ≡ slice_get rest (at - length bytes)
byte_behind [] rest at h = let same : at ≡ at - 0 = omega arith in ap (slice_get rest) same
byte_behind (byte ∷ bytes) rest zero h = absurd (omega arith)
byte_behind (byte ∷ bytes) rest (suc at) h =
    let same : at - length bytes ≡ suc at - length (byte ∷ bytes) = omega arith in byte_behind bytes rest at (omega arith)
    ∙ ap (slice_get rest) same

-- one part's share of the first k bytes, after which `left` of them are to come
pub share-turn : (all before now bytes rest : List ℕ) (k left : ℕ) → now ≡ before ++ take k bytes → left ≡ k - length bytes
    → all ≡ before ++ take k (bytes ++ rest) → all ≡ now ++ take left rest
share-turn all before now bytes rest k left put less h =
    cc (take_both k bytes rest, append_assoc before (take k bytes) (take (k - length bytes) rest))

-- at the end the destination is full
pub read-done : (all dst : List ℕ) (at : ℕ) → at ≤ length dst → length dst ≤ length all
    → take (length dst) all ≡ take at dst ++ take (length dst - at) [] → dst ≡ take (length dst) all
read-done all dst at within fits h =
    let full = h ∙ ap (λ w. take at dst ++ w) (take-nil {A = ℕ} (length dst - at)) ∙ append-nil (take at dst) in
    sym (full ∙ take_all at dst (omega (arith, length-take (length dst) all, length-take at dst, ap (λ (w : List ℕ). length w) full)))

-- one more chunk of at most k
pub chunk-turn : (before texts : List (List ℕ)) (text : List ℕ) (k : ℕ) → 0 < k
    → before ++ take k (text ∷ texts) ≡ (before ++ text ∷ []) ++ take (k - 1) texts
chunk-turn before texts text zero h = absurd (omega arith)
chunk-turn before texts text (suc k) h =
    sym (append_assoc before (text ∷ []) (take k texts)) ∙ ap (λ m. (before ++ text ∷ []) ++ take m texts) (omega arith)

pub ruleset reading = (filled-one, first_chunk-front, chunks-empty, chunks-full, none-taken, byte_in, byte_behind)
