-- Names that are freed one after the other, and the text of what they held.
use Rattle.std.proofs.Common.{Bool, ◌≡◌, ℕ, zero, suc, ◌+◌, ◌<◌, ◌≤◌, ◌^◌, true, false, List, [], ◌∷◌, ◌++◌, length, take, map, get_or, arith, ap, sym, refl, ◌∙◌, length-append}
use Rattle.std.specs.Prelude.{slice_set, slice_index_or, ◌==◌, sum_by}
use Rattle.std.specs.List.{list_all}
use Rattle.std.proofs.lemmas.List.{get_or_default, take_more, map-append}
use Rattle.iobufs.proofs.Joined.{length-joined}
use Rattle.iobufs.specs.Inside.Pieces.{pieces_bytes}
use Rattle.std.proofs.lemmas.Bool.{or_parts, or_from, and_parts}
use Rattle.std.proofs.lemmas.Bool.Decides.{nat_tests}
use Rattle.std.proofs.lemmas.List.Sums.{fold-append, sum_by-cons, sum_by_more_le}
use Rattle.iobufs_core.specs.View.{View}
use Rattle.iobufs_core.specs.Part.{Part as PartValue, part_capacity}
use Rattle.iobufs.specs.Parts.{parts_capacity}
use Rattle.iobufs_core.specs.MarkedText.{MarkedText, text_append, text_len, joined, default_text}
use Rattle.iobufs_run.specs.declared.table.Slot.{Slot}
use Rattle.iobufs_run.specs.declared.table.Slot.TheVariants.{Free, Part, Text, Parts}
use Rattle.iobufs_run.specs.declared.table.Slot.TheVariants.{View as SlotView}
use Rattle.iobufs_run.specs.Slots.{slot_named, part_held, view_held, extent}
use Rattle.iobufs_run.specs.Causes.{is_listed, has_twice}
use Rattle.iobufs_run.proofs.Freed.{all_freed-append, held_kept}
use Rattle.iobufs_run.specs.Run.{all_freed}

-- a name that isn't listed is another than each that is
differs : (xs : List ℕ) (i x y : ℕ) → is_listed xs y ≡ false → i < length xs → x ≡ get_or xs i x → (y == x) ≡ false
differs [] i x y e inside at = absurd (omega arith)
differs (z ∷ zs) zero x y e inside at =
    let parts = or_parts (z == y) (is_listed zs y) e in
    let first = parts.0 in
    grind (arith, nat_tests)
differs (z ∷ zs) (suc i) x y e inside at =
    let parts = or_parts (z == y) (is_listed zs y) e in
    differs zs i x y parts.1 (omega arith) at

-- a list without repeats has none of its elements twice
pub not_before : (xs : List ℕ) (i x : ℕ) → has_twice xs ≡ false → i < length xs → x ≡ get_or xs i x → is_listed (take i xs) x ≡ false
not_before [] i x once inside e = absurd (omega arith)
not_before (y ∷ ys) zero x once inside e = refl
not_before (y ∷ ys) (suc i) x once inside e =
    let parts = or_parts (is_listed ys y) (has_twice ys) once in
    or_from (y == x) (is_listed (take i ys) x) (differs ys i x y parts.0 (omega arith) e) (not_before ys i x parts.1 (omega arith) e)

pub joined-append : (views : List View) (view : View) → joined (views ++ view ∷ []) ≡ text_append (joined views) view
joined-append views view = fold-append text_append default_text views (view ∷ [])

-- putting a taken slot back restores the names
pub put_back : (names : List Slot) (src : ℕ) (slot : Slot) → src < length names → slot_named names src ≡ slot
    → slice_set (slice_set names src Free) src slot ≡ names
put_back [] src slot inside e = absurd (omega arith)
put_back (first ∷ others) zero slot inside e = ap (λ s. s ∷ others) (sym e)
put_back (first ∷ others) (suc src) slot inside e = ap (λ ss. first ∷ ss) (put_back others src slot (omega arith) e)

-- ---- one source more

-- a name that holds something that a free one doesn't is inside
held_inside : (p : Slot → Bool) (names : List Slot) (x : ℕ) → p Free ≡ false → p (slot_named names x) ≡ true → x < length names
held_inside p [] x never e = cc
held_inside p (s ∷ ss) zero never e = omega arith
held_inside p (s ∷ ss) (suc x) never e = let ih = held_inside p ss x never e in omega arith

source_passes : (p : Slot → Bool) (old : List Slot) (xs : List ℕ) (i : ℕ) → list_all (λ x. p (slot_named old x)) xs ≡ true → i < length xs
    → p (slot_named old (get_or xs i 0)) ≡ true
source_passes p old [] i all inside = absurd (omega arith)
source_passes p old (y ∷ ys) zero all inside = (and_parts (p (slot_named old y)) (list_all (λ x. p (slot_named old x)) ys) all).0
source_passes p old (y ∷ ys) (suc i) all inside =
    source_passes p old ys i (and_parts (p (slot_named old y)) (list_all (λ x. p (slot_named old x)) ys) all).1 (omega arith)

-- a source holds still what it held, when those before it are free
pub source_kept : (old now : List Slot) (xs : List ℕ) (i : ℕ) → has_twice xs ≡ false → now ≡ all_freed old (take i xs) → i < length xs
    → slot_named now (get_or xs i 0) ≡ slot_named old (get_or xs i 0)
source_kept old now xs i once is inside =
    let x = get_or xs i 0 in
    ap (λ (ss : List Slot). slot_named ss x) is ∙ held_kept old (take i xs) x
    (not_before xs i x once inside (get_or_default xs i 0 x inside))

-- read at any default it passes the test that all sources pass
pub source_read : (p : Slot → Bool) (old now : List Slot) (xs : List ℕ) (i : ℕ) (d : Slot) → p Free ≡ false → has_twice xs ≡ false
    → list_all (λ x. p (slot_named old x)) xs ≡ true → now ≡ all_freed old (take i xs) → i < length xs
    → (slice_index_or now (get_or xs i 0) d ≡ slot_named old (get_or xs i 0)) × (p (slot_named old (get_or xs i 0)) ≡ true)
source_read p old now xs i d never once all is inside =
    let x = get_or xs i 0 in
    let kept = source_kept old now xs i once is inside in
    let passes = source_passes p old xs i all inside in
    let there = held_inside p now x never (ap p kept ∙ passes) in
    (get_or_default now x d Free there ∙ kept, passes)

-- the names once one more source is free
pub freed_more : (old now : List Slot) (xs : List ℕ) (i : ℕ) (emptied : Slot) → now ≡ all_freed old (take i xs) → i < length xs
    → emptied ≡ Free
    → slice_set now (get_or xs i 0) emptied ≡ all_freed old (take (i + 1) xs)
freed_more old now xs i emptied is inside e =
    ap (λ (f : Slot). slice_set now (get_or xs i 0) f) e ∙ ap (λ (ss : List Slot). slice_set ss (get_or xs i 0) Free) is
    ∙ sym (all_freed-append old (take i xs) (get_or xs i 0)) ∙ ap (all_freed old) (sym (take_more xs i 0 inside))

-- the concatenation with one view more
pub text_more : (f : ℕ → View) (xs : List ℕ) (i : ℕ) (text new : MarkedText) (view : View) → text ≡ joined (map f (take i xs))
    → new ≡ text_append text view → view ≡ f (get_or xs i 0) → i < length xs
    → new ≡ joined (map f (take (i + 1) xs))
text_more f xs i text new view is e v inside =
    e ∙ ap (λ (t : MarkedText). text_append t view) is ∙ ap (text_append (joined (map f (take i xs)))) v
    ∙ sym (joined-append (map f (take i xs)) (f (get_or xs i 0))) ∙ ap joined (sym (map-append f (take i xs) (get_or xs i 0 ∷ [])))
    ∙ ap (λ (ys : List ℕ). joined (map f ys)) (sym (take_more xs i 0 inside))

bytes_sum : (f : ℕ → View) (xs : List ℕ) → length (pieces_bytes (map f xs)) ≡ sum_by (λ x. length (f x).bytes) xs
bytes_sum f [] = refl
bytes_sum f (x ∷ xs) =
    length-append (f x).bytes (pieces_bytes (map f xs)) ∙ ap (λ n. length (f x).bytes + n) (bytes_sum f xs)
    ∙ sym (sum_by-cons (λ (y : ℕ). length (f y).bytes) x xs)

sum_by_le : (f g : ℕ → ℕ) (xs : List ℕ) → ((x : ℕ) → f x ≤ g x) → sum_by f xs ≤ sum_by g xs
sum_by_le f g [] le = omega arith
sum_by_le f g (x ∷ xs) le = let ih = sum_by_le f g xs le in omega (arith, le x, sum_by-cons f x xs, sum_by-cons g x xs)

-- the view under a name has no more bytes than what the name holds counts in a gathering
pub view_held_len : (s : Slot) → length (view_held s).bytes ≤ extent s
view_held_len (SlotView view) = omega arith
view_held_len Free = omega arith
view_held_len (Part part) = omega arith
view_held_len (Text text) = omega arith
view_held_len (Parts parts) = omega arith

-- the text so far and one view more are no longer than all sources
pub source_fits : (old : List Slot) (xs : List ℕ) (i : ℕ) (text : MarkedText) (view : View)
    → sum_by (λ x. extent (slot_named old x)) xs < 2 ^ 64
    → text ≡ joined (map (λ x. view_held (slot_named old x)) (take i xs)) → slot_named old (get_or xs i 0) ≡ SlotView view → i < length xs
    → text_len text + length view.bytes < 2 ^ 64
source_fits old xs i text view fits is at inside =
    let viewed = λ (x : ℕ). view_held (slot_named old x) in
    let len : text_len text ≡ sum_by (λ x. length (viewed x).bytes) (take i xs) =
    length-joined (map viewed (take i xs)) text is ∙ bytes_sum viewed (take i xs) in
    let few = sum_by_le (λ x. length (viewed x).bytes) (λ x. extent (slot_named old x)) (take i xs)
    (λ x. view_held_len (slot_named old x)) in
    let more = sum_by_more_le (λ x. extent (slot_named old x)) xs i 0 inside in
    let last : extent (slot_named old (get_or xs i 0)) ≡ length view.bytes = ap extent at in
    omega (arith, len, few, more, last, fits)

-- a row of one element more
pub row_more : {X : Type 0} (f : ℕ → X) (xs : List ℕ) (i : ℕ) (row new : List X) (x : X) → row ≡ map f (take i xs) → new ≡ row ++ x ∷ []
    → x ≡ f (get_or xs i 0) → i < length xs
    → new ≡ map f (take (i + 1) xs)
row_more f xs i row new x is e at inside =
    e ∙ ap (λ ys. ys ++ x ∷ []) is ∙ ap (λ y. map f (take i xs) ++ y ∷ []) at
    ∙ sym (map-append f (take i xs) (get_or xs i 0 ∷ [])) ∙ ap (map f) (sym (take_more xs i 0 inside))

sum_of_map : {X : Type 0} (f : X → ℕ) (h : ℕ → X) (xs : List ℕ) → sum_by f (map h xs) ≡ sum_by (λ x. f (h x)) xs
sum_of_map f h [] = refl
sum_of_map f h (x ∷ xs) = sum_by-cons f (h x) (map h xs) ∙ ap (λ n. f (h x) + n) (sum_of_map f h xs) ∙ sym (sum_by-cons (λ y. f (h y)) x xs)

part_held_len : (s : Slot) → part_capacity (part_held s) ≤ extent s
part_held_len (Part part) = omega arith
part_held_len Free = omega arith
part_held_len (SlotView view) = omega arith
part_held_len (Text text) = omega arith
part_held_len (Parts parts) = omega arith

-- the capacities of the parts of a gathering fit
pub row_fits : (names : List Slot) (xs : List ℕ) (row : List PartValue) → sum_by (λ x. extent (slot_named names x)) xs < 2 ^ 64
    → row ≡ map (λ x. part_held (slot_named names x)) xs
    → parts_capacity row < 2 ^ 64
row_fits names xs row fits is =
    let few = sum_by_le (λ x. part_capacity (part_held (slot_named names x))) (λ x. extent (slot_named names x)) xs
    (λ x. part_held_len (slot_named names x)) in
    let sum : parts_capacity row ≡ sum_by (λ x. part_capacity (part_held (slot_named names x))) xs =
    ap parts_capacity is ∙ sum_of_map part_capacity (λ x. part_held (slot_named names x)) xs in
    omega (arith, sum, few, fits)
