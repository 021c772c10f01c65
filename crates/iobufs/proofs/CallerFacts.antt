-- Lemmas for callers of `IoBufs` and `IoBufsMut`, over bytes alone, and the rulesets that give them to a proof.
--     joining                   the bytes after a buffer was added, of several joined, and after a copy or an advance
--     sending                   a prefix that a writer took is sent, and several writes took what each took,
--                               in order
--     resting                   what some advances left
--     again                     a write that is tried again after one that took nothing
--     storing                   the bytes that fill empty buffers are theirs, and those of the `IoBufs` that they
--                               freeze to
--     length-advanced,          an advance by n drops n bytes; a batch of chunks is a prefix of the bytes
--     batch_bytes,
--     front_of_chunks
--     written_front,            what a writer took of a batch it took of the bytes, and no more than there is
--     written_within
--     stored_done,              emptied buffers are full again or their reader is at its end; they hold nothing if
--     stored_none, room_less    they can't; n bytes take n of the spare capacity
--     visited-bytes             a function that changes each byte of a chunk, changes all bytes
--     the rest                  what the rulesets cite
use Rattle.iobufs.proofs.Text.{Appends, Appends-trans, AreFilled, Consumes, Consumes-trans, Err, FoldsTo, IsChunkOf, IsRestOf, IsSent, IsStored, Keeps, Keeps-refl, Keeps-trans, List, MarkedText, None, Ok, Option, Part, Result, Some, View, WriteAppends, WritesAtMost, [], ap, append-nil, append_assoc, arith, bytes-advanced, bytes-part_frozen, bytes-rest, common_steps, drop, filled_composes, filled_lessens, filled_nothing, flat_map, flat_map-append, flat_map-map, inl, inr, joined-chunks, length, length-append, length-drop, length-take, map, map-append, min, nat_tests, nil_from_length, part_capacity, part_frozen, part_with_len, parts_capacity, parts_fill, parts_filled, parts_frozen, parts_overwritten, parts_spare, parts_with_len, refl, subst, sum_by-cons, sym, take, take-append-drop, take-append-le, text_advanced, text_chunks, ℕ, ◌++◌, ◌+◌, ◌-◌, ◌∙◌, ◌∷◌, ◌≡◌, ◌≤◌, ◌⊎◌}
use Rattle.std.proofs.lemmas.List.{take-take}
use Rattle.iobufs.proofs.Joined.{bytes-append, bytes-joined}
use Rattle.iobufs.specs.Laws.Draining.{joined-part_chunks}
use Rattle.iobufs.specs.Visiting.{IsVisited}

-- ---- sending

kept : (old new : Option (List ℕ)) → Keeps old new → Appends old new []
kept None new h = tt
kept (Some xs) None h = absurd h
kept (Some xs) (Some ys) h = h ∙ sym (append-nil xs)

-- nothing went off
pub sent_kept : (held holds : Option (List ℕ)) (text : List ℕ) → Keeps held holds → IsSent held holds text text
sent_kept held holds text h = record { front = []; whole = refl; grew = kept held holds h }

-- a writer that took nothing leaves all bytes
pub sent_nothing : (held : Option (List ℕ)) (text : List ℕ) → IsSent held held text text
sent_nothing held text = sent_kept held held text (Keeps-refl held)

-- one front went off after another
pub sent_on : (a b c : Option (List ℕ)) (text middle rest : List ℕ) → IsSent a b text middle → IsSent b c middle rest → IsSent a c text rest
sent_on a b c text middle rest p q = record {
  front = p.front ++ q.front;
  whole = p.whole ∙ ap (λ w. p.front ++ w) q.whole ∙ sym (append_assoc p.front q.front rest);
  grew = Appends-trans a b c p.front q.front p.grew q.grew;
}

-- the first n bytes are sent if a writer took them and they are dropped
pub sent_front : (held holds : Option (List ℕ)) (text rest : List ℕ) (n : ℕ) → Appends held holds (take n text) → rest ≡ drop n text
    → IsSent held holds text rest
sent_front held holds text rest n h is = record {
  front = take n text;
  whole = sym (take-append-drop n text)
      ∙ ap (λ w. take n text ++ w) (sym is);
  grew = h;
}

-- where as many bytes are left, nothing did
pub sent_none : (held holds : Option (List ℕ)) (text rest : List ℕ) → IsSent held holds text rest → length rest ≡ length text → rest ≡ text
sent_none held holds text rest is same =
    sym (is.whole ∙ ap (λ w. w ++ rest) (nil_from_length is.front
    (omega (arith, same, ap (λ (w : List ℕ). length w) is.whole, length-append is.front rest))))

-- all of a text that went off follows what the writer held
pub sent_all : (held holds : Option (List ℕ)) (text rest : List ℕ) → IsSent held holds text rest → rest ≡ [] → Appends held holds text
sent_all held holds text rest is none = subst (Appends held holds)
    (sym (is.whole ∙ ap (λ w. is.front ++ w) none ∙ append-nil is.front)) is.grew

-- an advance by n drops n bytes
pub length-advanced : (text new : MarkedText) (n : ℕ) → n ≤ length text.bytes → new ≡ text_advanced text n
    → length text.bytes ≡ n + length new.bytes
length-advanced text new n within is =
    omega (
      arith,
      within,
      ap (λ (t : MarkedText). length t.bytes) is,
      ap (λ (w : List ℕ). length w) (bytes-advanced text n within),
      length-drop n text.bytes,
    )

-- the first bytes of a chunk are those of all bytes
pub chunk_taken : (chunk text : List ℕ) (n : ℕ) → IsChunkOf chunk text → n ≤ length chunk → (n ≤ length text) × (take n chunk ≡ take n text)
chunk_taken chunk text n is fits =
    let long = ap (λ (w : List ℕ). length w) is.front in (
      omega (arith, fits, long, length-take (length chunk) text),
      ap (take n) is.front ∙ take-take n (length chunk) text fits,
    )

-- a batch is the first chunks, joined
pub batch_bytes : {A : Type 0} (bytes_of : A → List ℕ) (slices : List A) (text : MarkedText) (most : ℕ)
    → map bytes_of slices ≡ take most (text_chunks text)
    → flat_map bytes_of slices ≡ flat_map (λ chunk. chunk) (take most (text_chunks text))
batch_bytes bytes_of slices text most is = sym (flat_map-map (λ (chunk : List ℕ). chunk) bytes_of slices)
    ∙ ap (λ chunks. flat_map (λ chunk. chunk) chunks) is

-- the first bytes of a batch are a prefix of the bytes
pub front_of_chunks : {A : Type 0} (bytes_of : A → List ℕ) (slices : List A) (text : MarkedText) (most n : ℕ)
    → map bytes_of slices ≡ take most (text_chunks text)
    → n ≤ length (flat_map bytes_of slices) → (n ≤ length text.bytes) × (take n (flat_map bytes_of slices) ≡ take n text.bytes)
front_of_chunks bytes_of slices text most n is fits =
    let batch = flat_map bytes_of slices in
    let behind = flat_map (λ (piece : List ℕ). piece) (drop most (text_chunks text)) in
    let front : batch ≡ flat_map (λ piece. piece) (take most (text_chunks text)) = batch_bytes bytes_of slices text most is in
    let whole : batch ++ behind ≡ text.bytes =
    ap (λ w. w ++ behind) front ∙ sym (flat_map-append (λ (piece : List ℕ). piece) (take most (text_chunks text))
    (drop most (text_chunks text)))
    ∙ ap (λ pieces. flat_map (λ piece. piece) pieces) (take-append-drop most (text_chunks text)) ∙ joined-chunks text in (
      omega (arith, fits, length-append batch behind, ap (λ (w : List ℕ). length w) whole),
      sym (take-append-le n batch behind fits) ∙ ap (take n) whole,
    )

-- so what a writer took of them it took of the text
pub written_front : {A E : Type 0} (bytes_of : A → List ℕ) (slices : List A) (text : MarkedText) (most : ℕ) (held holds : Option (List ℕ))
    (result : Result ℕ E)
    → map bytes_of slices ≡ take most (text_chunks text) → WritesAtMost result (flat_map bytes_of slices)
    → WriteAppends held holds result (flat_map bytes_of slices)
    → WriteAppends held holds result text.bytes
written_front bytes_of slices text most held holds (Ok n) is bound h = subst (Appends held holds)
    (front_of_chunks bytes_of slices text most n is bound).1 h
written_front bytes_of slices text most held holds (Err error) is bound h = h

-- a writer of a batch takes no more than the bytes there are
pub written_within : {A E : Type 0} (bytes_of : A → List ℕ) (slices : List A) (text : MarkedText) (most : ℕ) (result : Result ℕ E)
    → map bytes_of slices ≡ take most (text_chunks text) → WritesAtMost result (flat_map bytes_of slices) → WritesAtMost result text.bytes
written_within bytes_of slices text most (Ok n) is bound = (front_of_chunks bytes_of slices text most n is bound).0
written_within bytes_of slices text most (Err error) is bound = tt

-- bytes are written after a call that wrote none
pub appends_after : (a b c : Option (List ℕ)) (u : List ℕ) → Keeps a b → Appends b c u → Appends a c u
appends_after None b c u p q = tt
appends_after (Some xs) None c u p q = absurd p
appends_after (Some xs) (Some ys) None u p q = absurd q
appends_after (Some xs) (Some ys) (Some zs) u p q = q ∙ ap (λ w. w ++ u) p

-- no advance
pub rest_none : (old : MarkedText) → IsRestOf old old
rest_none old = record { counts = []; left = refl }

-- one advance more
pub rest_on : (old mid new : MarkedText) (n : ℕ) → IsRestOf old mid → new ≡ text_advanced mid n → IsRestOf old new
rest_on old mid new n is more = record {
  counts = n ∷ is.counts;
  left = more
      ∙ ap (λ (t : MarkedText). text_advanced t n) is.left;
}

-- ---- storing

left : (had has : Option (List ℕ)) → Keeps had has → Consumes had has []
left None has h = tt
left (Some xs) None h = absurd h
left (Some xs) (Some ys) h = sym h

-- nothing was read
pub stored_kept : (had has : Option (List ℕ)) (parts : List Part) → Keeps had has → IsStored had has parts parts
stored_kept had has parts h = record { read = []; gave = left had has h; filled = filled_nothing parts }

pub stored_nothing : (had : Option (List ℕ)) (parts : List Part) → IsStored had had parts parts
stored_nothing had parts = stored_kept had had parts (Keeps-refl had)

-- once and once more
pub stored_on : (a b c : Option (List ℕ)) (old middle new : List Part) → IsStored a b old middle → IsStored b c middle new
    → IsStored a c old new
stored_on a b c old middle new p q = record {
  read = p.read ++ q.read;
  gave = Consumes-trans a b c p.read q.read p.gave q.gave;
  filled = filled_composes old middle new p.read q.read p.filled q.filled;
}

pub stored_read : (had has : Option (List ℕ)) (old new : List Part) (read : List ℕ) → Consumes had has read → AreFilled old read new
    → IsStored had has old new
stored_read had has old new read h filled = record { read = read; gave = h; filled = filled }

-- parts that are empty hold what was put, and nothing else
parts_empty : Part → List Part → Type 0
parts_empty part parts = (part.filled ≡ []) × (parts_filled parts ≡ [])

first_empty : (part : Part) (parts : List Part) → parts_filled (part ∷ parts) ≡ [] → parts_empty part parts
unfolding parts_empty
first_empty part parts none =
    let long = ap (λ (w : List ℕ). length w) none in
    let sum = length-append part.filled (parts_filled parts) in
    (nil_from_length part.filled (omega (arith, long, sum)), nil_from_length (parts_filled parts) (omega (arith, long, sum)))

pub filled-empty : (parts : List Part) (bytes : List ℕ) → parts_filled parts ≡ [] → length bytes ≤ parts_spare parts
    → parts_filled (parts_fill parts bytes) ≡ bytes
unfolding parts_empty
filled-empty [] bytes none fits = sym (nil_from_length bytes (omega arith))
filled-empty (part ∷ parts) bytes none fits =
    let (here, behind) = first_empty part parts none in
    let sum = sum_by-cons (λ (p : Part). p.spare) part parts in
    let more = filled-empty parts (drop part.spare bytes) behind (omega (arith, fits, sum, length-drop part.spare bytes)) in
    cc (take-append-drop part.spare bytes)

-- all bytes that a reader gave into empty parts
pub stored_bytes : (had has : Option (List ℕ)) (old new : List Part) → parts_filled old ≡ [] → IsStored had has old new
    → Consumes had has (parts_filled new)
stored_bytes had has old new none is =
    subst (Consumes had has) (sym (ap parts_filled is.filled.1 ∙ filled-empty old is.read none is.filled.0)) is.gave

-- parts cut to no bytes are empty, and have the room of all
none-filled : (part : Part) (n : ℕ) → n ≡ 0 → part_with_len part n ≡ record { filled = []; spare = part_capacity part }
none-filled part n z = rw z (grind (arith, nat_tests, common_steps))

emptied_upto : (parts : List Part) (n : ℕ) → n ≡ 0 → (parts_filled (parts_with_len parts n) ≡ [])
    × (parts_spare (parts_with_len parts n) ≡ parts_capacity parts)
emptied_upto [] n z = (refl, refl)
emptied_upto (part ∷ parts) n z =
    let first = none-filled part (min n (part_capacity part)) (omega arith) in
    let more = emptied_upto parts (n - part_capacity part) (omega arith) in (
      ap (λ (p : Part). p.filled ++ parts_filled (parts_with_len parts (n - part_capacity part))) first ∙ more.0,
      omega (
        arith,
        more.1,
        ap (λ (p : Part). p.spare) first,
        sum_by-cons part_capacity part parts,
        sum_by-cons (λ (p : Part). p.spare) (part_with_len part (min n (part_capacity part)))
            (parts_with_len parts (n - part_capacity part)),
      ),
    )

pub emptied-filled : (parts : List Part) → parts_filled (parts_with_len parts 0) ≡ []
emptied-filled parts = (emptied_upto parts 0 refl).0

pub emptied-spare : (parts : List Part) → parts_spare (parts_with_len parts 0) ≡ parts_capacity parts
emptied-spare parts = (emptied_upto parts 0 refl).1

-- the bytes of a text of parts
frozen-parts : (parts : List Part) → flat_map (λ (v : View). v.bytes) (map part_frozen parts) ≡ parts_filled parts
frozen-parts [] = refl
frozen-parts (part ∷ parts) = cc (bytes-part_frozen part, frozen-parts parts)

pub bytes-parts_frozen : (parts : List Part) → (parts_frozen parts).bytes ≡ parts_filled parts
bytes-parts_frozen parts = bytes-joined (map part_frozen parts) ∙ frozen-parts parts

-- emptied buffers contain exactly the bytes that were read into them, and the rest of their capacity is spare
stored_all : (had has : Option (List ℕ)) (parts old new : List Part) → old ≡ parts_with_len parts 0 → (is : IsStored had has old new)
    → (parts_filled new ≡ is.read) × (parts_capacity parts ≡ parts_spare new + length is.read)
stored_all had has parts old new cut is =
    let none : parts_filled old ≡ [] = ap parts_filled cut ∙ emptied-filled parts in
    let room : parts_spare old ≡ parts_capacity parts = ap parts_spare cut ∙ emptied-spare parts in
    (ap parts_filled is.filled.1 ∙ filled-empty old is.read none is.filled.0, sym room ∙ filled_lessens old new is.read is.filled)

-- emptied buffers are full after a store, or their reader is at its end
pub stored_done : {P : Type 0} (had has : Option (List ℕ)) (parts old new : List Part) (text : MarkedText) → old ≡ parts_with_len parts 0
    → IsStored had has old new → text ≡ parts_frozen new
    → (parts_spare new ≡ 0) ⊎ P → (length text.bytes ≡ parts_capacity parts) ⊎ P
stored_done had has parts old new text cut is frozen done =
    let all = stored_all had has parts old new cut is in
    let long : length text.bytes ≡ length is.read = cc (bytes-parts_frozen new, all.0) in
    elim done [ inl full ↦ inl (omega (arith, long, all.1, full)) | inr ended ↦ inr ended ]

-- buffers without capacity hold nothing after a store
pub stored_none : (had has : Option (List ℕ)) (parts old new : List Part) → old ≡ parts_with_len parts 0 → IsStored had has old new
    → parts_capacity parts ≡ 0
    → length (parts_filled new) ≡ 0
stored_none had has parts old new cut is none =
    let all = stored_all had has parts old new cut is in
    omega (arith, ap (λ (w : List ℕ). length w) all.0, all.1, none)

-- room that the first n bytes of a buffer filled is less by n
pub room_less : (old new : List Part) (bytes behind : List ℕ) (n : ℕ) → AreFilled old (take n (bytes ++ behind)) new → n ≤ length bytes
    → parts_spare old ≡ n + parts_spare new
room_less old new bytes behind n filled fits =
    omega (
      arith,
      filled_lessens old new (take n (bytes ++ behind)) filled,
      length-take n (bytes ++ behind),
      length-append bytes behind,
      fits,
    )

-- ---- visiting

-- each call keeps P, and makes of a chunk what h makes of each byte
visited-each : {F : Type 0} (call : F → List ℕ → F → List ℕ → Type 0) (P : F → Type 0) (h : ℕ → ℕ) (f last : F)
    (turns : List (List ℕ × List ℕ))
    → ((g k : F) (x y : List ℕ) → P g → call g x k y → P k × (y ≡ map h x)) → P f
    → FoldsTo (λ g (turn : List ℕ × List ℕ) k. call g turn.0 k turn.1) f turns last
    → flat_map (λ (turn : List ℕ × List ℕ). turn.1) turns ≡ map h (flat_map (λ (turn : List ℕ × List ℕ). turn.0) turns)
visited-each call P h f last [] each p calls = refl
visited-each call P h f last (turn ∷ turns) each p (mid, called, more) =
    let (stays, made) = each f mid turn.0 turn.1 p called in
    (λ i. made i ++ visited-each call P h mid last turns each stays more i)
    ∙ sym (map-append h turn.0 (flat_map (λ (t : List ℕ × List ℕ). t.0) turns))

-- a function that maps each byte by h, if its state keeps P, maps the bytes of all buffers by h
pub visited-bytes : {F : Type 0} (call : F → List ℕ → F → List ℕ → Type 0) (P : F → Type 0) (h : ℕ → ℕ) (f last : F) (old new : List Part)
    → ((g k : F) (x y : List ℕ) → P g → call g x k y → P k × (y ≡ map h x)) → P f → IsVisited call f old last new
    → new ≡ parts_overwritten old (map h (parts_filled old))
visited-bytes call P h f last old new each p v =
    let join : List (List ℕ) → List ℕ = λ chunks. flat_map (λ (chunk : List ℕ). chunk) chunks in
    let before = sym (joined-part_chunks old) ∙ ap join v.before
    ∙ flat_map-map (λ (chunk : List ℕ). chunk) (λ (t : List ℕ × List ℕ). t.0) v.turns in
    let after = sym (joined-part_chunks new) ∙ ap join v.after
    ∙ flat_map-map (λ (chunk : List ℕ). chunk) (λ (t : List ℕ × List ℕ). t.1) v.turns in
    v.kept ∙ ap (parts_overwritten old) (after ∙ visited-each call P h f last v.turns each p v.calls ∙ ap (map h) (sym before))

pub ruleset sending = (sent_kept, sent_nothing, sent_on, sent_front, sent_all, sent_none, bytes-advanced)

pub ruleset resting = (rest_none, rest_on)

pub ruleset again = (Keeps-refl, Keeps-trans, appends_after)

pub ruleset storing = (
  stored_kept,
  stored_nothing,
  stored_on,
  stored_read,
  filled_lessens,
  stored_bytes,
  emptied-filled,
  emptied-spare,
  bytes-parts_frozen,
)

pub ruleset joining = (bytes-append, bytes-joined, bytes-rest, bytes-advanced)
