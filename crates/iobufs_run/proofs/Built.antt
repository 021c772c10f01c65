-- Items that are put and pushed one after the other, and the names that are freed on the way.
use Rattle.std.proofs.Common.{◌≡◌, ℕ, ◌+◌, ◌≤◌, ◌<◌, ◌^◌, true, false, List, [], ◌∷◌, length, map, arith, ap, refl, ◌∙◌}
use Rattle.std.specs.Prelude.{slice_set, ◌==◌}
use Rattle.std.specs.List.{list_all}
use Rattle.std.proofs.lemmas.Bool.{or_parts, and_parts}
use Rattle.std.proofs.lemmas.List.Sums.{sum_by-cons}
use Rattle.iobufs_core.specs.Items.{PutOrPush as Written, put_item, push_item, items_inline, items_pushed}
use Rattle.iobufs.specs.Building.{Building, building_after, building_with, empty_building, building_room, room_for_pushes}
use Rattle.iobufs.specs.Laws.Building.{room-built, pushes-built}
use Rattle.iobufs_run.specs.declared.command.Item.{Item}
use Rattle.iobufs_run.specs.declared.command.Item.TheVariants.{Inline, Push}
use Rattle.iobufs_run.specs.declared.table.Slot.{Slot}
use Rattle.iobufs_run.specs.declared.table.Slot.TheVariants.{Free}
use Rattle.iobufs_run.specs.Slots.{slot_named, is_view, view_held, extent}
use Rattle.iobufs_run.specs.Causes.{is_listed, has_twice, inline_len, pushed_names, total_extent}
use Rattle.iobufs_run.specs.Run.{all_freed, MayFree, item_held}
use Rattle.iobufs_run.proofs.Freed.{differ_back, held_other, MayFree-none, MayFree-next}
use Rattle.iobufs_run.proofs.Gathered.{view_held_len}

-- building the remaining items now gives what building all items from the old names gives
pub record IsLeft (old : List Slot) (capacity : ℕ) (items : List Item) (names : List Slot) (b : Building) (rest : List Item) : Type 0 where
  pub views : list_all (λ src. is_view (slot_named names src)) (pushed_names rest) ≡ true
  pub once : has_twice (pushed_names rest) ≡ false
  pub room : items_inline (map (item_held names) rest) ≤ building_room b
  pub pushable : items_pushed (map (item_held names) rest) ≤ room_for_pushes b
  pub made : building_after b (map (item_held names) rest) ≡ building_after (empty_building capacity) (map (item_held old) items)
  pub freed : all_freed names (pushed_names rest) ≡ all_freed old (pushed_names items)
  pub costs : (new : List Slot) → MayFree (pushed_names rest) names new → MayFree (pushed_names items) old new

views_kept : (names : List Slot) (n : ℕ) (xs : List ℕ) → is_listed xs n ≡ false
    → list_all (λ src. is_view (slot_named (slice_set names n Free) src)) xs ≡ list_all (λ src. is_view (slot_named names src)) xs
views_kept names n [] e = refl
views_kept names n (x ∷ xs) e =
    let parts = or_parts (x == n) (is_listed xs n) e in
    rw (held_other names n x Free (differ_back x n parts.0), views_kept names n xs parts.1) refl

items_kept : (names : List Slot) (n : ℕ) (items : List Item) → is_listed (pushed_names items) n ≡ false
    → map (item_held (slice_set names n Free)) items ≡ map (item_held names) items
items_kept names n [] e = refl
items_kept names n (Inline bytes ∷ items) e = ap (λ (ws : List Written). put_item bytes.items ∷ ws) (items_kept names n items e)
items_kept names n (Push x ∷ items) e =
    let parts = or_parts (x == n) (is_listed (pushed_names items) n) e in
    rw (held_other names n x Free (differ_back x n parts.0), items_kept names n items parts.1) refl

-- one item takes from the room what it puts, and from what pushes may add what it pushes
room-next : (b : Building) (w : Written) (ws : List Written) → items_inline (w ∷ ws) ≤ building_room b
    → items_inline ws ≤ building_room (building_with b w)
room-next b w ws fits = let one = room-built b (w ∷ []) in omega arith

pushes-next : (b : Building) (w : Written) (ws : List Written) → items_pushed (w ∷ ws) ≤ room_for_pushes b
    → items_pushed ws ≤ room_for_pushes (building_with b w)
pushes-next b w ws fits = let one = pushes-built b (w ∷ []) in omega arith

-- where the first item that is left is put, or is pushed and its name freed, the others are left to build
pub left_next : (old : List Slot) (capacity : ℕ) (items : List Item) (names : List Slot) (b : Building) (item : Item) (rest : List Item)
    → IsLeft old capacity items names b (item ∷ rest)
    → IsLeft old capacity items (all_freed names (pushed_names (item ∷ []))) (building_with b (item_held names item)) rest
left_next old capacity items names b (Inline bytes) rest left = record {
  views = left.views;
  once = left.once;
  room = room-next b (put_item bytes.items) (map (item_held names) rest) left.room;
  pushable = pushes-next b (put_item bytes.items) (map (item_held names) rest) left.pushable;
  made = left.made;
  freed = left.freed;
  costs = left.costs;
}
left_next old capacity items names b (Push n) rest left =
    let view = view_held (slot_named names n) in
    let once = or_parts (is_listed (pushed_names rest) n) (has_twice (pushed_names rest)) left.once in
    let views = and_parts (is_view (slot_named names n))
    (list_all (λ src. is_view (slot_named names src)) (pushed_names rest)) left.views in
    let kept = items_kept names n rest once.0 in
    record {
      views = views_kept names n (pushed_names rest) once.0 ∙ views.1;
      once = once.1;
      room = rw kept (room-next b (push_item view) (map (item_held names) rest) left.room);
      pushable = rw kept (pushes-next b (push_item view) (map (item_held names) rest) left.pushable);
      made = ap (building_after (building_with b (push_item view))) kept ∙ left.made;
      freed = left.freed;
      costs = λ new some. left.costs new (MayFree-next names new n (pushed_names rest) some);
    }

-- the names of one item may be free
pub item_costs : (names : List Slot) (item : Item) (rest : List Item)
    → MayFree (pushed_names (item ∷ rest)) names (all_freed names (pushed_names (item ∷ [])))
item_costs names (Inline bytes) rest = MayFree-none (pushed_names rest) names
item_costs names (Push n) rest = MayFree-next names _ n (pushed_names rest) (MayFree-none (pushed_names rest) (slice_set names n Free))

inline_is : (names : List Slot) (items : List Item) → items_inline (map (item_held names) items) ≡ inline_len items
inline_is names [] = refl
inline_is names (Inline bytes ∷ items) = ap (λ n. length bytes.items + n) (inline_is names items)
inline_is names (Push n ∷ items) = let ih = inline_is names items in omega (arith, ih)

pushed_are : (names : List Slot) (items : List Item) → items_pushed (map (item_held names) items) ≤ total_extent names (pushed_names items)
pushed_are names [] = omega arith
pushed_are names (Inline bytes ∷ items) = let ih = pushed_are names items in omega (arith, ih)
pushed_are names (Push n ∷ items) =
    let ih = pushed_are names items in
    omega (arith, ih, view_held_len (slot_named names n), sum_by-cons (λ src. extent (slot_named names src)) n (pushed_names items))

-- all is left at first
pub left_first : (names : List Slot) (capacity : ℕ) (items : List Item)
    → list_all (λ src. is_view (slot_named names src)) (pushed_names items) ≡ true → has_twice (pushed_names items) ≡ false
    → inline_len items ≤ capacity → capacity + total_extent names (pushed_names items) < 2 ^ 64
    → IsLeft names capacity items names (empty_building capacity) items
left_first names capacity items views once inline fits = record {
  views = views;
  once = once;
  room = let is = inline_is names items in omega arith;
  pushable = let are = pushed_are names items in omega arith;
  made = refl;
  freed = refl;
  costs = λ new some. some;
}
