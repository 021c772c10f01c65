-- How puts and pushes change the fields of a builder.
use Rattle.iobufs.proofs.Text.{AreInTurn, AreSegments, Building, IsBuilding, List, Part, PutOrPush, Segment, View, [], ap, append_assoc, arith, building_from, building_items, building_push, building_put, building_room, common_steps, drop, drop-append-le, drop-drop, drop_all, empty_building, empty_part, gap, gaps_len, good_layout, inline_run, items_front, items_inline, items_inline-append, items_pushed, items_pushed-append, large_layout, length, length-append, length-drop, length-replicate, length-take, nat_tests, not_zero, part_capacity, part_put, push-some, push_item, refl, room_for_pushes, run-inline, run-pushed, segments_pushed, standing, stood_len, subst, suc, sym, take, take-append-le, take_all, view_of_bytes, zero, ℕ, ◌++◌, ◌+◌, ◌-◌, ◌<◌, ◌^◌, ◌∙◌, ◌∷◌, ◌≡◌, ◌≤◌}
use Rattle.iobufs.proofs.Building.GapLaws.{gaps-push, segments-push, stood-push}

-- bytes after the gaps change nothing before them
front-put : (bytes more : List ℕ) (ss : List Segment) → gaps_len ss ≤ length bytes → items_front (bytes ++ more) ss ≡ items_front bytes ss
front-put bytes more [] fits = refl
front-put bytes more (standing view ∷ ss) fits = ap (λ items. push_item view ∷ items) (front-put bytes more ss (omega arith))
front-put bytes more (gap n ∷ ss) fits =
    let d = length-drop n bytes in
    let inside : n ≤ length bytes = omega arith in
    cc (take-append-le n bytes more inside, drop-append-le n bytes more inside, front-put (drop n bytes) more ss (omega arith))

front-inline : (bytes : List ℕ) (ss : List Segment) → gaps_len ss ≤ length bytes → items_inline (items_front bytes ss) ≡ gaps_len ss
front-inline bytes [] fits = refl
front-inline bytes (standing view ∷ ss) fits = let ih = front-inline bytes ss (omega arith) in omega arith
front-inline bytes (gap n ∷ ss) fits =
    let d = length-drop n bytes in
    let t = length-take n bytes in
    let ih = front-inline (drop n bytes) ss (omega arith) in
    let r = run-inline (take n bytes) in
    let a = items_inline-append (inline_run (take n bytes)) (items_front (drop n bytes) ss) in
    omega arith

front-pushed : (bytes : List ℕ) (ss : List Segment) → items_pushed (items_front bytes ss) ≡ stood_len ss
front-pushed bytes [] = refl
front-pushed bytes (standing view ∷ ss) = let ih = front-pushed bytes ss in omega arith
front-pushed bytes (gap n ∷ ss) =
    omega (
      arith,
      front-pushed (drop n bytes) ss,
      run-pushed (take n bytes),
      items_pushed-append (inline_run (take n bytes)) (items_front (drop n bytes) ss),
    )

-- segments after others get the bytes that no gap had
front-append : (bytes : List ℕ) (ss ts : List Segment)
    → items_front bytes (ss ++ ts) ≡ items_front bytes ss ++ items_front (drop (gaps_len ss) bytes) ts
front-append bytes [] ts = refl
front-append bytes (standing view ∷ ss) ts =
    let same : gaps_len ss ≡ 0 + gaps_len ss = omega arith in
    ap (λ items. push_item view ∷ items) (front-append bytes ss ts)
    ∙ ap (λ n. push_item view ∷ items_front bytes ss ++ items_front (drop n bytes) ts) same
front-append bytes (gap n ∷ ss) ts =
    cc (
      front-append (drop n bytes) ss ts,
      drop-drop (gaps_len ss) n bytes,
      append_assoc (inline_run (take n bytes)) (items_front (drop n bytes) ss) _,
    )

front-pushed_segments : (bytes : List ℕ) (run : ℕ) (view : View)
    → items_front bytes (segments_pushed run view) ≡ inline_run (take run bytes) ++ push_item view ∷ []
front-pushed_segments bytes zero view = refl
front-pushed_segments bytes (suc n) view = rw (not_zero (suc n) (omega arith)) refl

pub new-building : (capacity : ℕ) → building_from (empty_part capacity) [] 0 ≡ empty_building capacity
new-building capacity =
    let n : 0 + capacity ≡ capacity = omega arith in ap empty_building n

pub put-building : (part : Part) (ss : List Segment) (placed : ℕ) (bytes : List ℕ) → gaps_len ss ≡ placed → placed ≤ length part.filled
    → length bytes ≤ part.spare → building_from (part_put part bytes) ss placed ≡ building_put (building_from part ss placed) bytes
put-building part ss placed bytes counted within fits =
    let capacity : part_capacity (part_put part bytes) ≡ part_capacity part = omega (arith, length-append part.filled bytes) in
    cc (front-put part.filled bytes ss (omega arith), drop-append-le placed part.filled bytes within)

pub push-building : (part : Part) (ss : List Segment) (placed run : ℕ) (view : View) → gaps_len ss ≡ placed → placed ≤ length part.filled
    → run ≡ length part.filled - placed → 0 < length view.bytes
    → building_from part (ss ++ segments_pushed run view) (placed + run) ≡ building_push (building_from part ss placed) view
push-building part ss placed run view counted within is some =
    let d = length-drop placed part.filled in
    let before = items_front part.filled ss in
    let front =
    front-append part.filled ss (segments_pushed run view)
    ∙ ap (λ items. before ++ items) (front-pushed_segments (drop (gaps_len ss) part.filled) run view)
    ∙ ap (λ n. before ++ (inline_run (take run (drop n part.filled)) ++ push_item view ∷ [])) counted
    ∙ ap (λ bytes. before ++ (inline_run bytes ++ push_item view ∷ [])) (take_all run (drop placed part.filled) (omega arith)) in
    let last = drop_all (placed + run) part.filled (omega arith) in
    cc (push-some (building_from part ss placed) view some)

pub room-building : (part : Part) (ss : List Segment) (placed : ℕ) → gaps_len ss ≡ placed → placed ≤ length part.filled
    → building_room (building_from part ss placed) ≡ part.spare
room-building part ss placed counted within =
    let d = length-drop placed part.filled in
    let n = front-inline part.filled ss (omega arith) in
    omega arith

-- all inline bytes are in items
pub inline-building : (part : Part) (ss : List Segment) (placed : ℕ) → gaps_len ss ≡ placed → placed ≤ length part.filled
    → items_inline (building_items (building_from part ss placed)) ≡ length part.filled
inline-building part ss placed counted within =
    let d = length-drop placed part.filled in
    let n = front-inline part.filled ss (omega arith) in
    let r = run-inline (drop placed part.filled) in
    let a = items_inline-append (items_front part.filled ss) (inline_run (drop placed part.filled)) in
    omega arith

pub pushes-building : (part : Part) (ss : List Segment) (placed pushable : ℕ) → part_capacity part + stood_len ss + pushable + 1 ≡ 2 ^ 64
    → room_for_pushes (building_from part ss placed) ≡ pushable
pushes-building part ss placed pushable limited =
    omega (arith, front-pushed part.filled ss)

pub put-capacity : (part : Part) (bytes : List ℕ) → length bytes ≤ part.spare → part_capacity (part_put part bytes) ≡ part_capacity part
put-capacity part bytes fits = let n = length-append part.filled bytes in omega arith

-- a put into the fields of a builder is a put into what they say
pub put-kept : (part after : Part) (ss : List Segment) (placed : ℕ) (b : Building) (bytes : List ℕ) → gaps_len ss ≡ placed
    → placed ≤ length part.filled
    → building_from part ss placed ≡ b → length bytes ≤ building_room b → after ≡ part_put part bytes
    → building_from after ss placed ≡ building_put b bytes
put-kept part after ss placed b bytes counted within is fits put =
    cc (put-building part ss placed bytes counted within (omega (arith, room-building part ss placed counted within, ap building_room is)))

-- a push keeps that the fields read as the builder
pub push-kept : (part : Part) (ss after : List Segment) (placed end : ℕ) (b : Building) (run : ℕ) (view : View) → gaps_len ss ≡ placed
    → placed ≤ length part.filled → building_from part ss placed ≡ b → run ≡ length part.filled - placed → 0 < length view.bytes
    → after ≡ ss ++ segments_pushed run view → end ≡ placed + run → building_from part after end ≡ building_push b view
push-kept part ss after placed end b run view counted within is run_is some pushed moved = cc
    (push-building part ss placed run view counted within run_is some)

-- how many bytes pushes may still add
pub pushes-kept : (part : Part) (ss : List Segment) (placed pushable : ℕ) (b : Building)
    → part_capacity part + stood_len ss + pushable + 1 ≡ 2 ^ 64
    → building_from part ss placed ≡ b → room_for_pushes b ≡ pushable
pushes-kept part ss placed pushable b limited is = ap room_for_pushes (sym is) ∙ pushes-building part ss placed pushable limited

-- items in turn stay in turn if inline bytes, or none, and then a view with bytes are put before them
in_turn-run : (bytes : List ℕ) (view : View) (items : List PutOrPush) → 0 < length view.bytes → AreInTurn items
    → AreInTurn (inline_run bytes ++ push_item view ∷ items)
in_turn-run [] view items some rest = (some, rest)
in_turn-run (byte ∷ bytes) view items some rest = (omega arith, some, rest)

in_turn-front : (bytes : List ℕ) (ss : List Segment) → AreSegments ss → AreInTurn (items_front bytes ss)
in_turn-front bytes [] h = tt
in_turn-front bytes (standing view ∷ ss) h = (h.0, in_turn-front bytes ss h.1)
in_turn-front bytes (gap n ∷ []) h = absurd h
in_turn-front bytes (gap n ∷ gap m ∷ ss) h = absurd h
in_turn-front bytes (gap n ∷ standing view ∷ ss) (some, stands, others) =
    in_turn-run (take n bytes) view (items_front (drop n bytes) ss) stands (in_turn-front (drop n bytes) ss others)

-- the builder that fields represent has its items in turn and within its capacity, if the fields keep their invariant
pub IsBuilding-kept : (part : Part) (ss : List Segment) (placed pushable : ℕ) (b : Building) → gaps_len ss ≡ placed
    → placed ≤ length part.filled
    → AreSegments ss → part_capacity part + stood_len ss + pushable + 1 ≡ 2 ^ 64 → building_from part ss placed ≡ b → IsBuilding b
IsBuilding-kept part ss placed pushable b counted within segments limited is = subst IsBuilding is (
    record {
      in_turn = in_turn-front part.filled ss segments;
      within = omega (arith, front-inline part.filled ss (omega arith), length-drop placed part.filled);
      fits = omega (arith, front-pushed part.filled ss);
    })

-- a view of bytes has as many as there are
pub bytes-len : (bytes : List ℕ) → length (view_of_bytes bytes).bytes ≡ length bytes
bytes-len bytes = grind (arith, nat_tests, common_steps)

pub ruleset building = (
  good_layout,
  large_layout,
  new-building,
  put-building,
  push-building,
  room-building,
  pushes-building,
  gaps-push,
  stood-push,
  segments-push,
  put-capacity,
  pushes-kept,
  bytes-len,
  length-replicate,
)
