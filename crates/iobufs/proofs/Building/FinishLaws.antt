-- The chunks that a builder finishes to.
use Rattle.iobufs.proofs.Text.{AreSegments, Building, List, Part, PutOrPush, Segment, View, [], ap, append_assoc, arith, building_after, building_bytes, building_from, building_items, building_push, building_put, by_lt, common_steps, default_view, drop, drop-drop, empty_building, filled, finished, gap, gaps_len, if◌then◌else◌, inline_run, items_bytes, items_bytes-append, items_front, items_inline, items_pushed, joined, length, length-append, length-drop, length-take, nat_tests, native_mark, nil_from_length, not_zero, part_capacity, part_frozen, pieces_bytes, push-none, push_item, put_item, put_nothing, refl, room_for_pushes, run-bytes, standing, sym, take, take_all, view_rest, view_split_front, views_from, ℕ, ◌++◌, ◌+◌, ◌-◌, ◌<◌, ◌==◌, ◌^◌, ◌∙◌, ◌∷◌, ◌≡◌, ◌≤◌}
use Rattle.iobufs.proofs.Building.AddLaws.{len-append}
use Rattle.iobufs.proofs.Building.GapLaws.{segments-first}
use Rattle.iobufs.proofs.Joined.{bytes-joined}

-- inline bytes as a view
abbrev pub inline_view : ℕ → List ℕ → View
inline_view room bytes = if length bytes == 0 then default_view else record { bytes = bytes; mark = native_mark room }

inline-some : (room : ℕ) (bytes : List ℕ) → 0 < length bytes → inline_view room bytes ≡ record { bytes = bytes; mark = native_mark room }
inline-some room bytes some = grind (arith, nat_tests, common_steps)

views-some : (room : ℕ) (bytes : List ℕ) (items : List PutOrPush) → 0 < length bytes
    → views_from room (inline_run bytes ++ items) ≡ record { bytes = bytes; mark = native_mark room } ∷ views_from
    (room - length bytes) items
views-some room [] items some = absurd (omega arith)
views-some room (b ∷ bs) items some = refl

-- the front of inline bytes, and what is left of them
split-some : (room : ℕ) (bytes : List ℕ) (n : ℕ) → 0 < n → n ≤ length bytes
    → view_split_front (inline_view room bytes) n ≡ record { bytes = take n bytes; mark = native_mark room }
split-some room bytes n some fits =
    ap (λ (v : View). view_split_front v n) (inline-some room bytes (omega arith))
    ∙ by_lt n (length bytes) (λ h. grind (arith, nat_tests, common_steps))
    (λ h. let all = take_all n bytes h in let e : n ≡ length bytes = omega arith in rw all (grind (arith, nat_tests, common_steps)))

rest-inside : (room : ℕ) (bytes : List ℕ) (n : ℕ) → 0 < n → n < length bytes
    → view_rest (record { bytes = bytes; mark = native_mark room }) n ≡ record { bytes = drop n bytes; mark = native_mark (room - n) }
rest-inside room bytes n some inside = grind (arith, nat_tests, common_steps)

rest-whole : (room : ℕ) (bytes : List ℕ) (n : ℕ) → 0 < n → n ≡ length bytes
    → view_rest (record { bytes = bytes; mark = native_mark room }) n ≡ default_view
rest-whole room bytes n some whole = grind (arith, nat_tests, common_steps)

rest-inline : (room : ℕ) (bytes : List ℕ) (n : ℕ) → n ≤ length bytes
    → view_rest (inline_view room bytes) n ≡ inline_view (room - n) (drop n bytes)
rest-inline room bytes n fits =
    by_lt 0 n (λ some.
    let d = length-drop n bytes in
    ap (λ (v : View). view_rest v n) (inline-some room bytes (omega arith))
    ∙ by_lt n (length bytes) (λ h. rest-inside room bytes n some h ∙ sym (inline-some (room - n) (drop n bytes) (omega arith)))
    (λ h. rest-whole room bytes n some (omega arith) ∙ sym (grind (arith, nat_tests, common_steps))))
    (λ h.
    let none : n ≡ 0 = omega arith in
    let same : room ≡ room - 0 = omega arith in
    rw none (ap (λ r. inline_view r bytes) same))

last-views : (room : ℕ) (bytes : List ℕ) → filled (inline_view room bytes) [] ≡ views_from room (inline_run bytes)
last-views room [] = refl
last-views room (b ∷ bs) =
    ap (λ (v : View). filled v []) (inline-some room (b ∷ bs) (omega arith))
    ∙ rw (not_zero (length (b ∷ bs)) (omega arith)) refl

-- the gaps are filled by the inline texts
filled-views : (room : ℕ) (bytes : List ℕ) (ss : List Segment) → AreSegments ss → gaps_len ss ≤ length bytes
    → filled (inline_view room bytes) ss ≡ views_from room (items_front bytes ss ++ inline_run (drop (gaps_len ss) bytes))
filled-views room bytes [] segments fits = last-views room bytes
filled-views room bytes (standing view ∷ ss) segments fits =
    let same : gaps_len ss ≡ 0 + gaps_len ss = omega arith in
    cc (filled-views room bytes ss segments.1 (omega arith))
filled-views room bytes (gap n ∷ ss) segments fits =
    let first = segments-first (gap n) ss segments in
    let some : 0 < n = omega (arith, first.0) in
    let inside : n ≤ length bytes = omega arith in
    let d = length-drop n bytes in
    let w = take n bytes in
    let left = drop n bytes in
    let len : length w ≡ n = (let t = length-take n bytes in omega arith) in
    let items = items_front left ss ++ inline_run (drop (gaps_len ss) left) in
    let run : record { bytes = w; mark = native_mark room } ∷ views_from (room - n) items ≡ views_from room (inline_run w ++ items) =
    ap (λ k. record { bytes = w; mark = native_mark room } ∷ views_from (room - k) items) (sym len)
    ∙ sym (views-some room w items (omega arith)) in
    ap (λ (v : View). v ∷ filled (view_rest (inline_view room bytes) n) ss) (split-some room bytes n some inside)
    ∙ ap (λ (v : View). record { bytes = w; mark = native_mark room } ∷ filled v ss) (rest-inline room bytes n inside)
    ∙ ap (λ vs. record { bytes = w; mark = native_mark room } ∷ vs) (filled-views (room - n) left ss first.1 (omega arith))
    ∙ run
    ∙ ap (λ more. views_from room (inline_run w ++ (items_front left ss ++ inline_run more))) (drop-drop (gaps_len ss) n bytes)
    ∙ ap (λ (all : List PutOrPush). views_from room all) (sym (append_assoc (inline_run w) (items_front left ss) _))

-- so they make what the builder says
pub finished-views : (part : Part) (ss : List Segment) (placed : ℕ) → AreSegments ss → gaps_len ss ≡ placed → placed ≤ length part.filled
    → joined (filled (part_frozen part) ss) ≡ finished (building_from part ss placed)
finished-views part ss placed segments counted within = cc (filled-views (part_capacity part) part.filled ss segments (omega arith))

inline-bytes : (room : ℕ) (bytes : List ℕ) → (inline_view room bytes).bytes ≡ bytes
inline-bytes room [] = refl
inline-bytes room (b ∷ bs) = ap (λ (v : View). v.bytes) (inline-some room (b ∷ bs) (omega arith))

-- a part is frozen with its filled bytes
pub frozen-bytes : (part : Part) → (part_frozen part).bytes ≡ part.filled
frozen-bytes part = inline-bytes (part_capacity part) part.filled

-- the bytes of the chunks are all bytes
views-bytes : (room : ℕ) (items : List PutOrPush) → pieces_bytes (views_from room items) ≡ items_bytes items
views-bytes room [] = refl
views-bytes room (put_item bytes ∷ items) = ap (λ more. bytes ++ more) (views-bytes (room - length bytes) items)
views-bytes room (push_item view ∷ items) = ap (λ more. view.bytes ++ more) (views-bytes room items)

pub finished-bytes : (b : Building) → (finished b).bytes ≡ building_bytes b
finished-bytes b =
    bytes-joined (views_from b.capacity (building_items b))
    ∙ views-bytes b.capacity (building_items b)
    ∙ items_bytes-append b.front (inline_run b.last)
    ∙ ap (λ more. items_bytes b.front ++ more) (run-bytes b.last)

-- the bytes of items are as many as those that are put and those that are pushed
pub items-len : (items : List PutOrPush) → length (items_bytes items) ≡ items_inline items + items_pushed items
items-len [] = omega arith
items-len (put_item bytes ∷ items) = let n = length-append bytes (items_bytes items) in let ih = items-len items in omega arith
items-len (push_item view ∷ items) = let n = length-append view.bytes (items_bytes items) in let ih = items-len items in omega arith

-- a builder for the inline bytes has room for all pushes
pub pushes-fit : (b : Building) (items : List PutOrPush) → b ≡ empty_building (items_inline items) → length (items_bytes items) < 2 ^ 64
    → room_for_pushes b < items_pushed items → ⊥
pushes-fit b items empty fits long =
    let n = items-len items in
    let room = ap room_for_pushes empty in omega arith

-- puts and pushes without bytes leave a builder as it was
built-nothing : (b : Building) (items : List PutOrPush) → length (items_bytes items) ≡ 0 → building_after b items ≡ b
built-nothing b [] none = refl
built-nothing b (put_item bytes ∷ items) none =
    let n = length-append bytes (items_bytes items) in
    cc (built-nothing (building_put b bytes) items (omega arith), nil_from_length bytes (omega arith), (put_nothing b).1)
built-nothing b (push_item view ∷ items) none =
    let n = length-append view.bytes (items_bytes items) in
    built-nothing (building_push b view) items (omega arith) ∙ push-none b view (omega arith)

-- a new builder that is given items without bytes has no item
pub nothing-built : (capacity : ℕ) (items : List PutOrPush) → length (items_bytes items) ≡ 0
    → building_items (building_after (empty_building capacity) items) ≡ []
nothing-built capacity items none = ap building_items (built-nothing (empty_building capacity) items none)

pub ruleset finishing = (len-append, frozen-bytes)
