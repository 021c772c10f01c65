-- Lists that are filled place by place: with the chunks of parts and their lengths, and with the values of places.
use Rattle.std.proofs.Common.{◌≡◌, ℕ, zero, suc, ◌<◌, ◌≤◌, ◌+◌, ◌==◌, true, false, replicate, slice_index_or, List, [], ◌∷◌, ◌++◌, length, map, take, drop, Some, slice_get, slice_set, arith, ap, sym, refl, ◌∙◌, length-take, take-append-drop, append-nil}
use Rattle.std.proofs.Math.Seq.{drop-append-add, map-set_same, take-append-add, take-append_seam}
use Rattle.std.proofs.lemmas.Bool.Decides.{nat_tests}
use Rattle.std.proofs.lemmas.Grind.{common_steps, replicate_next}
use Rattle.std.proofs.lemmas.List.Elements.{filter-append}
use Rattle.iobufs.specs.Parts.{parts_chunks}
use Rattle.iobufs_core.specs.Chunks.{full_chunks, is_full}
use Rattle.iobufs_core.specs.Part.{Part}
use Rattle.std.proofs.lemmas.List.{take_more, take_more_set, drop-drop, drop-set-lt, get_or-drop, length-map, map-append}
use Rattle.std.proofs.lemmas.Option.{get_or_from_slice_get, slice_get_within}

next_item : {X : Type 0} (xs : List X) (i : ℕ) (x : X) → slice_get xs i ≡ Some x → take (i + 1) xs ≡ take i xs ++ x ∷ []
next_item xs i x e = take_more xs i x (slice_get_within xs i x e) ∙ ap (λ y. take i xs ++ y ∷ []) (get_or_from_slice_get xs i x x e)

-- an item after the first n has its index without them
pub get-drop : {X : Type 0} (n : ℕ) (xs : List X) (i : ℕ) → slice_get (drop n xs) i ≡ slice_get xs (n + i)
get-drop zero xs i = let e : i ≡ 0 + i = omega arith in ap (slice_get xs) e
get-drop (suc n) [] i = refl
get-drop (suc n) (x ∷ xs) i = let e : suc (n + i) ≡ suc n + i = omega arith in get-drop n xs i ∙ ap (slice_get (x ∷ xs)) e

-- one place more says of its item what another list says of it
pub filled_more : {X Y Z : Type 0} (f : X → Y) (g : Z → Y) (xs : List X) (zs : List Z) (i : ℕ) (x : X) (z : Z) → i < length xs
    → slice_get zs i ≡ Some z
    → f x ≡ g z
    → map f (take i xs) ≡ map g (take i zs) → map f (take (i + 1) (slice_set xs i x)) ≡ map g (take (i + 1) zs)
filled_more f g xs zs i x z inside at same so =
    ap (map f) (take_more_set xs i x inside) ∙ map-append f (take i xs) (x ∷ []) ∙ ap (λ ys. ys ++ f x ∷ []) so
    ∙ ap (λ y. map g (take i zs) ++ y ∷ []) same
    ∙ sym (map-append g (take i zs) (z ∷ [])) ∙ ap (map g) (sym (next_item zs i z at))

-- the entries after the filled ones are unchanged
pub rest_more : {X : Type 0} (xs old : List X) (i : ℕ) (x : X) → i < i + 1 → drop i xs ≡ drop i old
    → drop (i + 1) (slice_set xs i x) ≡ drop (i + 1) old
rest_more xs old i x less so = drop-set-lt (i + 1) xs i x less ∙ sym (drop-drop 1 i xs) ∙ ap (drop 1) so ∙ drop-drop 1 i old

-- ---- a list that is filled from two others, one after the other

-- the first n of a list, and m of another: all of the first list, unless m is 0
pub take_both : {X : Type 0} (xs ys : List X) (n m : ℕ) → n ≤ length xs → (n < length xs → m ≡ 0)
    → take (n + m) (xs ++ ys) ≡ take n xs ++ take m ys
take_both [] ys zero m within full = let e : 0 + m ≡ m = omega arith in ap (λ k. take k ys) e
take_both [] ys (suc n) m within full = absurd (omega (arith, within))
take_both (x ∷ xs) ys zero m within full =
    let none : m ≡ 0 = full (omega arith) in ap (λ k. take (0 + k) (x ∷ xs ++ ys)) none ∙ ap (λ k. take k ys) (sym none)
take_both (x ∷ xs) ys (suc n) m within full =
    let e : suc n + m ≡ suc (n + m) = omega arith in
    ap (λ k. take k (x ∷ xs ++ ys)) e ∙ ap (λ zs. x ∷ zs) (take_both xs ys n m (omega (arith, within)) (λ less. full (omega (arith, less))))

-- the first n entries of a list, and then m others
pub filled_both : {X : Type 0} (xs ys post : List X) (n m : ℕ) → n ≤ length xs → post ≡ []
    → take (n + m) (take n xs ++ (ys ++ post)) ≡ take n xs ++ take m ys
filled_both xs ys post n m within none =
    let size : length (take n xs) ≡ n = omega (arith, length-take n xs, within) in
    ap (λ p. take (n + m) (take n xs ++ (ys ++ p))) none ∙ ap (λ zs. take (n + m) (take n xs ++ zs)) (append-nil ys)
    ∙ ap (λ k. take (k + m) (take n xs ++ ys)) (sym size) ∙ take-append-add (take n xs) ys m

-- the entries after these
pub left_both : {X : Type 0} (xs ys post : List X) (n m : ℕ) → n ≤ length xs → post ≡ []
    → drop (n + m) (take n xs ++ (ys ++ post)) ≡ drop m ys
left_both xs ys post n m within none =
    let size : length (take n xs) ≡ n = omega (arith, length-take n xs, within) in
    ap (λ p. drop (n + m) (take n xs ++ (ys ++ p))) none ∙ ap (λ zs. drop (n + m) (take n xs ++ zs)) (append-nil ys)
    ∙ ap (λ k. drop (k + m) (take n xs ++ ys)) (sym size) ∙ drop-append-add (take n xs) ys m

-- ---- the pieces of parts

pub chunks-append : (xs ys : List Part) → parts_chunks (xs ++ ys) ≡ parts_chunks xs ++ parts_chunks ys
chunks-append xs ys = ap full_chunks (map-append (λ (part : Part). part.filled) xs ys)
    ∙ filter-append is_full (map (λ (part : Part). part.filled) xs) (map (λ (part : Part). part.filled) ys)

one_full : (bytes : List ℕ) (spare : ℕ) → (length bytes == 0) ≡ false
    → parts_chunks ((record { filled = bytes; spare = spare }) ∷ []) ≡ bytes ∷ []
one_full (byte ∷ bytes) spare some = refl
one_full [] spare some = grind (arith, nat_tests, common_steps, some)

one_none : (bytes : List ℕ) (spare : ℕ) → (length bytes == 0) ≡ true → parts_chunks ((record { filled = bytes; spare = spare }) ∷ []) ≡ []
one_none [] spare none = refl
one_none (byte ∷ bytes) spare none = grind (arith, nat_tests, common_steps, none)

-- a part with bytes is one piece more, and one without none
pub chunks_more : (parts : List Part) (i : ℕ) (part : Part) → slice_get parts i ≡ Some part → (length part.filled == 0) ≡ false
    → parts_chunks (take (i + 1) parts) ≡ parts_chunks (take i parts) ++ part.filled ∷ []
chunks_more parts i part at some =
    ap parts_chunks (next_item parts i part at) ∙ chunks-append (take i parts) (part ∷ [])
    ∙ ap (λ more. parts_chunks (take i parts) ++ more) (one_full part.filled part.spare some)

-- a part without bytes adds no chunk to those of the parts before it
pub chunks_same : (parts : List Part) (i : ℕ) (part : Part) → slice_get parts i ≡ Some part → (length part.filled == 0) ≡ true
    → parts_chunks (take (i + 1) parts) ≡ parts_chunks (take i parts)
chunks_same parts i part at none =
    ap parts_chunks (next_item parts i part at) ∙ chunks-append (take i parts) (part ∷ [])
    ∙ ap (λ more. parts_chunks (take i parts) ++ more) (one_none part.filled part.spare none)
    ∙ append-nil (parts_chunks (take i parts))

-- one place more says how long one piece more is
pub lengths_more : {X : Type 0} (f : X → ℕ) (xs : List X) (pieces more : List (List ℕ)) (n : ℕ) (x : X) (bytes : List ℕ) → n < length xs
    → f x ≡ length bytes → more ≡ pieces ++ bytes ∷ []
    → map f (take n xs) ≡ map length pieces → map f (take (n + 1) (slice_set xs n x)) ≡ map length more
lengths_more f xs pieces more n x bytes inside same is so =
    ap (map f) (take_more_set xs n x inside) ∙ map-append f (take n xs) (x ∷ []) ∙ ap (λ ys. ys ++ f x ∷ []) so
    ∙ ap (λ y. map length pieces ++ y ∷ []) same
    ∙ sym (map-append length pieces (bytes ∷ [])) ∙ ap (map length) (sym is)

-- so many places say how long so many pieces are
pub counted : {X : Type 0} (f : X → ℕ) (xs : List X) (pieces : List (List ℕ)) (n : ℕ) → n ≤ length xs
    → map f (take n xs) ≡ map length pieces
    → length pieces ≡ n
counted f xs pieces n within so =
    let sizes = sym (length-map pieces length) ∙ ap length (sym so) ∙ length-map (take n xs) f in
    omega (arith, within, sizes, length-take n xs)

-- the chunks of the first i parts and those of the others are the chunks of all
pub chunks_split : (parts : List Part) (i : ℕ) → parts_chunks parts ≡ parts_chunks (take i parts) ++ parts_chunks (drop i parts)
chunks_split parts i = ap parts_chunks (sym (take-append-drop i parts)) ∙ chunks-append (take i parts) (drop i parts)

-- where the first i parts have n chunks, these are the first n of all
pub first_chunks : (parts : List Part) (i n : ℕ) → length (parts_chunks (take i parts)) ≡ n
    → take n (parts_chunks parts) ≡ parts_chunks (take i parts)
first_chunks parts i n count =
    ap (take n) (chunks_split parts i) ∙ ap (λ k. take k (parts_chunks (take i parts) ++ parts_chunks (drop i parts))) (sym count)
    ∙ take-append_seam (parts_chunks (take i parts)) (parts_chunks (drop i parts))

-- ---- the values of places

-- where the first i elements are mapped to a value, and so is one that is put into the next place, the first i + 1 are
pub taken_more : {X Y : Type 0} (f : X → Y) (xs : List X) (i : ℕ) (x : X) (y : Y) → i < length xs → f x ≡ y
    → map f (take i xs) ≡ replicate i y
    → map f (take (i + 1) (slice_set xs i x)) ≡ replicate (i + 1) y
taken_more f xs i x y inside is so =
    ap (map f) (take_more_set xs i x inside) ∙ map-append f (take i xs) (x ∷ []) ∙ ap (λ ys. ys ++ f x ∷ []) so
    ∙ ap (λ z. replicate i y ++ z ∷ []) is
    ∙ sym (replicate_next i y)

-- an element that is mapped as the one in whose place it is put leaves the mapped list as it was
pub places_same : {X Y : Type 0} (f : X → Y) (xs : List X) (i : ℕ) (x d : X) → f x ≡ f (slice_index_or xs i d)
    → map f (slice_set xs i x) ≡ map f xs
places_same f xs i x d same = map-set_same f xs i x d same

-- a place after those that changed is as it was
pub place_kept : {X : Type 0} (xs old : List X) (i : ℕ) (d : X) → drop i xs ≡ drop i old → slice_index_or xs i d ≡ slice_index_or old i d
place_kept xs old i d so =
    let same : i + 0 ≡ i = omega arith in
    ap (λ k. slice_index_or xs k d) (sym same) ∙ sym (get_or-drop i xs 0 d) ∙ ap (λ ys. slice_index_or ys 0 d) so ∙ get_or-drop i old 0 d
    ∙ ap (λ k. slice_index_or old k d) same

-- so the next place adds its value
pub value_next : {X Y : Type 0} (f : X → Y) (xs : List X) (i : ℕ) (d : X) (y : Y) → i < length xs → f (slice_index_or xs i d) ≡ y
    → map f (take i xs) ++ y ∷ [] ≡ map f (take (i + 1) xs)
value_next f xs i d y inside at =
    ap (λ z. map f (take i xs) ++ z ∷ []) (sym at) ∙ sym (map-append f (take i xs) (slice_index_or xs i d ∷ []))
    ∙ ap (map f) (sym (take_more xs i d inside))
