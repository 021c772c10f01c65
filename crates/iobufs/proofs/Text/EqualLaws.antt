-- Bytes compared chunk by chunk.
use Rattle.iobufs.proofs.Text.Known.{Bool, List, MatchOption, None, Option, Some, View, [], ap, append-nil, append_assoc, append_cancel_left, arith, bytes_behind, bytes_decides, drop, drop-drop, drop_all, false, is_some, length, length-append, length-drop, nat_eq, nil_from_length, not, piece_at, pieces_bytes, pointwise, refl, same_from_decides, sym, take, take-append-drop, take-append-le, take-append_seam, true, true≢false, view_len, ℕ, ◌++◌, ◌+◌, ◌-◌, ◌<◌, ◌∙◌, ◌≡◌, ◌≤◌}
use Rattle.iobufs.proofs.Text.CopyLaws.{bytes-from, slice_from}

-- `start` and `bytes` begin with the same compared bytes, and go on with `rest` and `left`
pub record IsMatched (start bytes left rest : List ℕ) : Type 0 where
  pub done : List ℕ
  pub compared : bytes ≡ done ++ left
  pub stands : start ≡ done ++ rest

-- a chunk more
pub matched-more : (start bytes left rest chunk behind more : List ℕ) → IsMatched start bytes left rest → left ≡ chunk ++ behind
    → rest ≡ chunk ++ more
    → IsMatched start bytes behind more
matched-more start bytes left rest chunk behind more m l r =
    record {
      done = m.done ++ chunk;
      compared = m.compared ∙ ap (λ xs. m.done ++ xs) l ∙ sym (append_assoc m.done chunk behind);
      stands = m.stands ∙ ap (λ xs. m.done ++ xs) r ∙ sym (append_assoc m.done chunk more);
    }

-- all that is left to compare stands there
pub matched-all : (start bytes left rest more : List ℕ) → IsMatched start bytes left rest → rest ≡ left ++ more → start ≡ bytes ++ more
matched-all start bytes left rest more m r =
    m.stands ∙ ap (λ xs. m.done ++ xs) r ∙ sym (append_assoc m.done left more) ∙ ap (λ xs. xs ++ more) (sym m.compared)

-- it doesn't
pub matched-not : (start bytes left rest : List ℕ) → IsMatched start bytes left rest → ((more : List ℕ) → rest ≡ left ++ more → ⊥)
    → (more : List ℕ) → start ≡ bytes ++ more → ⊥
matched-not start bytes left rest m never more is =
    never more (append_cancel_left m.done rest (left ++ more)
    (sym m.stands ∙ is ∙ ap (λ xs. xs ++ more) m.compared ∙ append_assoc m.done left more))

-- where a longer list begins with a shorter one, its first elements are these
pub shorter-front : (xs ys rest more : List ℕ) (n : ℕ) → n ≡ length xs → n ≤ length ys → ys ++ rest ≡ xs ++ more → take n ys ≡ xs
shorter-front xs ys rest more n l short is =
    sym (take-append-le n ys rest short) ∙ ap (take n) is ∙ ap (λ k. take k (xs ++ more)) l ∙ take-append_seam xs more

untrue : (b : Bool) → true ≡ not b → b ≡ false
untrue true h = absurd (true≢false h)
untrue false h = refl

unfalse : (b : Bool) → false ≡ not b → b ≡ true
unfalse true h = refl
unfalse false h = absurd (true≢false (sym h))

-- a chunk that is longer than what is left to compare, and begins otherwise
pub matched-differs : (start bytes left rest chunk behind : List ℕ) → IsMatched start bytes left rest → rest ≡ chunk ++ behind
    → length left ≤ length chunk
    → true ≡ not (pointwise nat_eq left (take (length left) chunk)) → (more : List ℕ) → start ≡ bytes ++ more → ⊥
matched-differs start bytes left rest chunk behind m stands l differs =
    matched-not start bytes left rest m (λ more is.
    let front = shorter-front left chunk behind more (length left) refl l (sym stands ∙ is) in
    true≢false (sym ((bytes_decides left (take (length left) chunk)).1 (sym front)) ∙ untrue _ differs))

-- equal bytes within a chunk: the text begins with them
pub matched-within : (start bytes left rest chunk behind : List ℕ) → IsMatched start bytes left rest → rest ≡ chunk ++ behind
    → false ≡ not (pointwise nat_eq left (take (length left) chunk)) → start ≡ bytes ++ (drop (length left) chunk ++ behind)
matched-within start bytes left rest chunk behind m stands same =
    let n = length left in
    matched-all start bytes left rest (drop n chunk ++ behind) m
    (cc (
      take-append-drop n chunk,
      append_assoc (take n chunk) (drop n chunk) behind,
      (bytes_decides left (take n chunk)).0
          (unfalse _ same),
    ))

-- a chunk that is no longer than what is left to compare, and isn't its beginning
pub matched-past-not : (start bytes left rest chunk behind : List ℕ) → IsMatched start bytes left rest → rest ≡ chunk ++ behind
    → length chunk ≤ length left
    → pointwise nat_eq (take (length chunk) left) chunk ≡ false → (more : List ℕ) → start ≡ bytes ++ more → ⊥
matched-past-not start bytes left rest chunk behind m stands l differs =
    matched-not start bytes left rest m (λ more is.
    let front = shorter-front chunk left more behind (length chunk) refl l (sym is ∙ stands) in
    true≢false (sym ((bytes_decides (take (length chunk) left) chunk).1 front) ∙ differs))

-- equal bytes past a chunk: the match continues after it
pub matched-past : (start bytes left rest chunk behind more : List ℕ) → IsMatched start bytes left rest → rest ≡ chunk ++ behind
    → pointwise nat_eq (take (length chunk) left) chunk ≡ true → more ≡ drop (length chunk) left → IsMatched start bytes more behind
matched-past start bytes left rest chunk behind more m stands same is =
    let n = length chunk in
    let front = (bytes_decides (take n left) chunk).0 same in
    let parts : left ≡ chunk ++ more = sym (take-append-drop n left) ∙ ap (λ xs. xs ++ drop n left) front
    ∙ ap (λ xs. chunk ++ xs) (sym is) in
    matched-more start bytes left rest chunk more behind m parts stands

-- if `rest` is empty and `start` is long enough, `start` begins with `bytes`
pub matched-end : (start bytes left rest : List ℕ) → IsMatched start bytes left rest → rest ≡ [] → length bytes ≤ length start
    → start ≡ bytes ++ rest
matched-end start bytes left rest m none enough =
    let left_none : left ≡ [] = nil_from_length left
    (omega (
      arith,
      length-append m.done left,
      length-append m.done rest,
      enough,
      ap length m.compared,
      ap length m.stands,
      ap length none,
    )) in
    matched-all start bytes left rest rest m (sym (ap (λ xs. xs ++ rest) left_none))

-- after the last chunk there are no bytes
pub none-behind : (vs : List View) (i o : ℕ) → length vs ≤ i → bytes_behind vs i o ≡ []
none-behind vs i o l =
    let none : length (pieces_bytes (drop i vs)) ≡ 0 = ap (λ (ws : List View). length (pieces_bytes ws)) (drop_all i vs l) in
    nil_from_length (bytes_behind vs i o) (omega (arith, length-drop o (pieces_bytes (drop i vs)), none))

-- the bytes from an offset in a chunk on are the rest of the chunk, and the chunks after it
pub chunk-stands : (vs : List View) (i o : ℕ) (all : List ℕ) → i < length vs → o ≤ view_len (piece_at vs i) → all ≡ (piece_at vs i).bytes
    → bytes_behind vs i o ≡ take (length all - o) (drop o all) ++ pieces_bytes (drop (i + 1) vs)
chunk-stands vs i o all l inside is =
    bytes-from vs i o l inside ∙ ap (λ xs. xs ++ pieces_bytes (drop (i + 1) vs)) (sym (slice_from o all ∙ ap (drop o) is))

-- from inside a chunk on, and from further inside on
pub further-behind : (vs : List View) (i o n : ℕ) (all : List ℕ) → i < length vs → o + n ≤ view_len (piece_at vs i)
    → all ≡ (piece_at vs i).bytes
    → bytes_behind vs i (o + n) ≡ drop n (take (length all - o) (drop o all)) ++ pieces_bytes (drop (i + 1) vs)
further-behind vs i o n all l inside is = cc (bytes-from vs i (o + n) l inside, drop-drop n o (piece_at vs i).bytes, slice_from o all)

-- `left` is as long as `rest` if `bytes` is as long as `start`
pub matched-lengths : (start bytes left rest : List ℕ) → IsMatched start bytes left rest → length bytes ≡ length start
    → length left ≡ length rest
matched-lengths start bytes left rest m same =
    omega (arith, same, ap length m.compared, ap length m.stands, length-append m.done left, length-append m.done rest)

-- bytes of which the next chunk isn't found aren't the same
pub differ-at : (start bytes left rest chunk behind : List ℕ) → IsMatched start bytes left rest → left ≡ chunk ++ behind
    → ((more : List ℕ) → rest ≡ chunk ++ more → ⊥) → false ≡ pointwise nat_eq bytes start
differ-at start bytes left rest chunk behind m parts never =
    same_from_decides {P = bytes ≡ start} false (pointwise nat_eq bytes start) (
      λ h. absurd (true≢false (sym h)),
      λ is. absurd (never behind (append_cancel_left m.done rest (chunk ++ behind)
          (sym m.stands ∙ sym is ∙ m.compared ∙ ap (λ xs. m.done ++ xs) parts))),
    )
    (bytes_decides bytes start)

-- bytes that were compared up to their end are the same
pub same-to_end : (start bytes left rest : List ℕ) → IsMatched start bytes left rest → length bytes ≡ length start → left ≡ []
    → true ≡ pointwise nat_eq bytes start
same-to_end start bytes left rest m same none =
    let none_behind : rest ≡ [] = nil_from_length rest (omega (arith, matched-lengths start bytes left rest m same, ap length none)) in
    sym ((bytes_decides bytes start).1 (m.compared ∙ ap (λ xs. m.done ++ xs) (none ∙ sym none_behind) ∙ sym m.stands))

-- where the bytes of chunks are those of texts
pub of_texts : (a b : List ℕ) (s t : List ℕ) (answer : Bool) → a ≡ s → b ≡ t → answer ≡ pointwise nat_eq a b → answer ≡ pointwise nat_eq s t
of_texts a b s t answer left right is = is ∙ (λ k. pointwise nat_eq (left k) (right k))

-- bytes are found in as many exactly where they are the same
pub found-same : {R : Type 0} (stands bytes : List ℕ) (result : Option R) (inside : R → Type 0) (behind : R → List ℕ)
    → length stands ≡ length bytes
    → MatchOption result ((more : List ℕ) → stands ≡ bytes ++ more → ⊥) (λ end. inside end × (stands ≡ bytes ++ behind end))
    → is_some result ≡ pointwise nat_eq stands bytes
found-same stands bytes None inside behind same never =
    same_from_decides {P = stands ≡ bytes} false (pointwise nat_eq stands bytes)
    (λ h. absurd (true≢false (sym h)), λ is. absurd (never [] (is ∙ sym (append-nil bytes)))) (bytes_decides stands bytes)
found-same stands bytes (Some end) inside behind same (at, is) =
    let none : behind end ≡ [] = nil_from_length (behind end) (omega (arith, same, ap length is, length-append bytes (behind end))) in
    sym ((bytes_decides stands bytes).1 (is ∙ ap (λ xs. bytes ++ xs) none ∙ append-nil bytes))
