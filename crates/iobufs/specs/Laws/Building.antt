-- Laws of building, for the traits that a builder meets.
--     IsBuilderPut                                       bytes that fit were put into a builder
--     IsBuiltBy                                     puts and pushes that fit were done, one after another
--     items_bytes-append, items_inline-append,    of items joined, the bytes join and the counts add up
--     items_pushed-append
--     run-bytes, run-inline, run-pushed           inline bytes as an item are these bytes, all of them copied
--     put-append, put_nothing, put_unchanged,     two puts are one, none changes nothing, each lessens the capacity
--     put_lessens, put_composes
--     built-append, bytes-built, room-built,      what a list of items adds, and what a push of nothing and of
--     pushes-built, push-none, push-some          something does
--     built_idle, built_puts, built_skips,        what the trait of puts and pushes asks for
--     built_adds, built_uses, built_spends,
--     built_follows
use Rattle.std.proofs.Common.{◌≡◌, ℕ, ◌+◌, ◌-◌, ◌<◌, ◌≤◌, List, [], ◌∷◌, ◌++◌, length, refl, sym, ap, ◌∙◌, arith, append_assoc, append-nil, length-append, ⊎_elim}
use Rattle.std.proofs.lemmas.Bool.{cases_lt}
use Rattle.std.proofs.lemmas.List.{nil_from_length}
use Rattle.std.proofs.lemmas.Bool.Decides.{nat_tests}
use Rattle.std.proofs.lemmas.Grind.{common_steps}
use Rattle.iobufs_core.specs.View.{View}
use Rattle.iobufs_core.specs.Items.{PutOrPush, put_item, push_item, item_bytes, item_inline, item_pushed, items_bytes, items_inline, items_pushed}
use Rattle.iobufs.specs.Building.{Building, inline_run, building_put, building_push, building_with, building_after, building_bytes, building_room, room_for_pushes}

-- putting these bytes in, which fit
abbrev pub IsBuilderPut : Building → List ℕ → Building → Type 0
IsBuilderPut a bytes b = (length bytes ≤ building_room a) × (b ≡ building_put a bytes)

-- doing these puts and pushes one after another, all of which fit
abbrev pub IsBuiltBy : Building → List PutOrPush → Building → Type 0
IsBuiltBy a items b = (items_inline items ≤ building_room a) × (items_pushed items ≤ room_for_pushes a) × (b ≡ building_after a items)

pub items_bytes-append : (xs ys : List PutOrPush) → items_bytes (xs ++ ys) ≡ items_bytes xs ++ items_bytes ys
items_bytes-append [] ys = refl
items_bytes-append (x ∷ xs) ys = ap (λ bs. item_bytes x ++ bs) (items_bytes-append xs ys)
    ∙ sym (append_assoc (item_bytes x) (items_bytes xs) (items_bytes ys))

pub items_inline-append : (xs ys : List PutOrPush) → items_inline (xs ++ ys) ≡ items_inline xs + items_inline ys
items_inline-append [] ys = omega arith
items_inline-append (x ∷ xs) ys = let ih = items_inline-append xs ys in omega arith

pub items_pushed-append : (xs ys : List PutOrPush) → items_pushed (xs ++ ys) ≡ items_pushed xs + items_pushed ys
items_pushed-append [] ys = omega arith
items_pushed-append (x ∷ xs) ys = let ih = items_pushed-append xs ys in omega arith

pub run-bytes : (bytes : List ℕ) → items_bytes (inline_run bytes) ≡ bytes
run-bytes [] = refl
run-bytes (b ∷ bs) = append-nil (b ∷ bs)

pub run-inline : (bytes : List ℕ) → items_inline (inline_run bytes) ≡ length bytes
run-inline [] = refl
run-inline (b ∷ bs) = omega arith

pub run-pushed : (bytes : List ℕ) → items_pushed (inline_run bytes) ≡ 0
run-pushed [] = refl
run-pushed (b ∷ bs) = refl

put-nothing : (b : Building) → b ≡ building_put b []
put-nothing b = ap (λ (last : List ℕ). record { capacity = b.capacity; front = b.front; last = last }) (sym (append-nil b.last))

pub put-append : (b : Building) (u v : List ℕ) → building_put (building_put b u) v ≡ building_put b (u ++ v)
put-append b u v = ap (λ (last : List ℕ). record { capacity = b.capacity; front = b.front; last = last }) (append_assoc b.last u v)

-- the laws of the trait to fill capacity
pub put_nothing : (b : Building) → IsBuilderPut b [] b
put_nothing b = (omega arith, put-nothing b)

pub put_unchanged : (a b : Building) → IsBuilderPut a [] b → b ≡ a
put_unchanged a b put = put.1 ∙ sym (put-nothing a)

pub put_lessens : (a b : Building) (w : List ℕ) → IsBuilderPut a w b → building_room a ≡ building_room b + length w
put_lessens a b w put = omega (arith, put.0, length-append a.last w, ap building_room put.1)

pub put_composes : (a b c : Building) (u v : List ℕ) → IsBuilderPut a u b → IsBuilderPut b v c → IsBuilderPut a (u ++ v) c
put_composes a b c u v first second = (
  omega (arith, length-append u v, put_lessens a b u first, second.0),
  second.1 ∙ ap (λ (x : Building). building_put x v) first.1 ∙ put-append a u v,
)

-- items done, then others
pub built-append : (a : Building) (us vs : List PutOrPush) → building_after a (us ++ vs) ≡ building_after (building_after a us) vs
built-append a [] vs = refl
built-append a (u ∷ us) vs = built-append (building_with a u) us vs

-- a push of nothing, and of something
pub push-none : (a : Building) (view : View) → length view.bytes ≡ 0 → building_push a view ≡ a
push-none a view none = grind (arith, nat_tests, common_steps)

pub push-some : (a : Building) (view : View) → 0 < length view.bytes → building_push a view ≡ record {
  capacity = a.capacity;
  front = a.front ++ (inline_run a.last ++ push_item view ∷ []);
  last = [];
}
push-some a view some = grind (arith, nat_tests, common_steps)

by_length : (view : View) (C : Type 0) → (length view.bytes ≡ 0 → C) → (0 < length view.bytes → C) → C
by_length view C none some = ⊎_elim some (λ (h : length view.bytes ≤ 0). none (omega arith)) (cases_lt 0 (length view.bytes))

-- one item adds its bytes, and lessens one of the two rooms
bytes-one : (a : Building) (item : PutOrPush) → building_bytes (building_with a item) ≡ building_bytes a ++ item_bytes item
bytes-one a (put_item bytes) = sym (append_assoc (items_bytes a.front) a.last bytes)
bytes-one a (push_item view) =
    by_length view _
    (λ (none : length view.bytes ≡ 0). ap building_bytes (push-none a view none) ∙ sym (append-nil (building_bytes a))
    ∙ ap (λ bs. building_bytes a ++ bs) (sym (nil_from_length view.bytes none)))
    (λ (some : 0 < length view.bytes).
    ap building_bytes (push-some a view some) ∙ append-nil _ ∙ items_bytes-append a.front _
    ∙ ap (λ bs. items_bytes a.front ++ bs) (items_bytes-append (inline_run a.last) _
    ∙ ap (λ bs. bs ++ (view.bytes ++ [])) (run-bytes a.last)
    ∙ ap (λ bs. a.last ++ bs) (append-nil view.bytes))
    ∙ sym (append_assoc (items_bytes a.front) a.last view.bytes))

room-one : (a : Building) (item : PutOrPush) → building_room (building_with a item) ≡ building_room a - item_inline item
room-one a (put_item bytes) = let n = length-append a.last bytes in omega arith
room-one a (push_item view) =
    by_length view _
    (λ (none : length view.bytes ≡ 0). ap building_room (push-none a view none) ∙ (omega arith))
    (λ (some : 0 < length view.bytes).
    let n = items_inline-append a.front (inline_run a.last ++ push_item view ∷ []) in
    let m = items_inline-append (inline_run a.last) (push_item view ∷ []) in
    let r = run-inline a.last in ap building_room (push-some a view some) ∙ (omega arith))

pushes-one : (a : Building) (item : PutOrPush) → room_for_pushes (building_with a item) ≡ room_for_pushes a - item_pushed item
pushes-one a (put_item bytes) = omega arith
pushes-one a (push_item view) =
    by_length view _
    (λ (none : length view.bytes ≡ 0). ap room_for_pushes (push-none a view none) ∙ (omega arith))
    (λ (some : 0 < length view.bytes).
    let n = items_pushed-append a.front (inline_run a.last ++ push_item view ∷ []) in
    let m = items_pushed-append (inline_run a.last) (push_item view ∷ []) in
    let r = run-pushed a.last in ap room_for_pushes (push-some a view some) ∙ (omega arith))

pub bytes-built : (a : Building) (items : List PutOrPush) → building_bytes (building_after a items) ≡ building_bytes a ++ items_bytes items
bytes-built a [] = sym (append-nil (building_bytes a))
bytes-built a (i ∷ is) =
    bytes-built (building_with a i) is ∙ ap (λ bs. bs ++ items_bytes is) (bytes-one a i)
    ∙ append_assoc (building_bytes a) (item_bytes i) (items_bytes is)

pub room-built : (a : Building) (items : List PutOrPush) → building_room (building_after a items) ≡ building_room a - items_inline items
room-built a [] = omega arith
room-built a (i ∷ is) = let ih = room-built (building_with a i) is in let one = room-one a i in omega arith

pub pushes-built : (a : Building) (items : List PutOrPush)
    → room_for_pushes (building_after a items) ≡ room_for_pushes a - items_pushed items
pushes-built a [] = omega arith
pushes-built a (i ∷ is) = let ih = pushes-built (building_with a i) is in let one = pushes-one a i in omega arith

-- the laws of the trait of puts and pushes
pub built_idle : (a : Building) → IsBuiltBy a [] a
built_idle a = (omega arith, omega arith, refl)

pub built_puts : (a b : Building) (w : List ℕ) → IsBuilderPut a w b → IsBuiltBy a (put_item w ∷ []) b
built_puts a b w put = (omega (arith, put.0), omega arith, put.1)

pub built_skips : (s : Building) (view : View) → length view.bytes ≡ 0 → IsBuiltBy s (push_item view ∷ []) s
built_skips s view none = (omega arith, omega (arith, none), sym (push-none s view none))

pub built_adds : (a b : Building) (items : List PutOrPush) → IsBuiltBy a items b → building_bytes b ≡ building_bytes a ++ items_bytes items
built_adds a b items (inline, pushed, is) = ap building_bytes is ∙ bytes-built a items

pub built_uses : (a b : Building) (items : List PutOrPush) → IsBuiltBy a items b → building_room a ≡ building_room b + items_inline items
built_uses a b items (inline, pushed, is) = omega (arith, inline, ap building_room is, room-built a items)

pub built_spends : (a b : Building) (items : List PutOrPush) → IsBuiltBy a items b
    → room_for_pushes a ≡ room_for_pushes b + items_pushed items
built_spends a b items (inline, pushed, is) = omega (arith, pushed, ap room_for_pushes is, pushes-built a items)

pub built_follows : (a b c : Building) (us vs : List PutOrPush) → IsBuiltBy a us b → IsBuiltBy b vs c → IsBuiltBy a (us ++ vs) c
built_follows a b c us vs first second =
    let (inline, pushed, is) = first in
    let (inline_behind, pushed_behind, is_behind) = second in (
      omega (arith, items_inline-append us vs, built_uses a b us first, inline_behind),
      omega (arith, items_pushed-append us vs, built_spends a b us first, pushed_behind),
      is_behind ∙ ap (λ (x : Building). building_after x vs) is ∙ sym (built-append a us vs),
    )
