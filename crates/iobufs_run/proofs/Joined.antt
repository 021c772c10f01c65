-- A view that is taken from its name to be put after or before a text, and comes back.
use Rattle.std.proofs.Common.{◌≡◌, ◌≢◌, ℕ, ◌⊎◌, inl, inr, ◌<◌, true, false, List, [], ◌∷◌, length, arith, ap, sym, subst, ◌∙◌, None, get_or-set_other}
use Rattle.std.specs.Prelude.{slice_set, slice_index_or, IsTrue, not, ◌==◌, ◌&&◌}
use Rattle.std.proofs.lemmas.Bool.Decides.{nat_tests}
use Rattle.std.proofs.lemmas.List.{set-get_or, get_or_default, length-set}
use Rattle.iobufs_core.specs.View.{View as ViewValue}
use Rattle.iobufs_run.specs.declared.table.Slot.{Slot}
use Rattle.iobufs_run.specs.declared.table.Slot.TheVariants.{Free, View}
use Rattle.iobufs_run.specs.declared.table.End.{End}
use Rattle.iobufs_run.specs.declared.table.End.TheVariants.{Front, Back}
use Rattle.iobufs_run.specs.declared.command.Reply.TheVariants.{Refused}
use Rattle.iobufs_run.specs.declared.command.Refusal.TheVariants.{Memory}
use Rattle.iobufs_run.specs.Slots.{slot_named, is_text, readable}
use Rattle.iobufs_run.specs.Run.{joining, MayFree, Step}
use Rattle.iobufs_run.proofs.Freed.{MayFree-none}
use Rattle.iobufs_run.specs.Causes.{first_cause, join_causes}
use Rattle.iobufs_run.proofs.Gathered.{put_back}

-- the target of a joining is a text
target_is_text : (names : List Slot) (target src : ℕ) → first_cause (join_causes names target src) ≡ None
    → is_text (slot_named names target) ≡ true
target_is_text names target src none = grind (arith, nat_tests)

pub other_name : (names : List Slot) (target src : ℕ) (view : ViewValue) → first_cause (join_causes names target src) ≡ None
    → slot_named names src ≡ View view → target ≢ src
other_name names target src view none at = λ same.
    let text = target_is_text names target src none in
    let here : slot_named names target ≡ View view = ap (slot_named names) same ∙ at in
    let not_text : is_text (slot_named names target) ≡ false = ap is_text here in
    cc

-- taking the view changes nothing at the target
pub target_kept : (names : List Slot) (target src : ℕ) (view : ViewValue) → first_cause (join_causes names target src) ≡ None
    → slot_named names src ≡ View view
    → (d : Slot) → slot_named (slice_set names src d) target ≡ slot_named names target
target_kept names target src view none at d = get_or-set_other names src target d Free (other_name names target src view none at)

-- all is as before when the view comes back
pub restored : (names : List Slot) (target src : ℕ) (view : ViewValue) (d : Slot) → src < length names → slot_named names src ≡ View view
    → slice_set (slice_set (slice_set names src Free) target (slice_index_or (slice_set names src Free) target d)) src (View view) ≡ names
restored names target src view d inside at =
    ap (λ (ss : List Slot). slice_set ss src (View view)) (set-get_or (slice_set names src Free) target d)
    ∙ put_back names src (View view) inside at

names_inside : (names : List Slot) (target src : ℕ) → first_cause (join_causes names target src) ≡ None
    → (target < length names) × (src < length names)
names_inside names target src none = (grind (arith, nat_tests), grind (arith, nat_tests))

both_some : (m n : ℕ) → 0 < m → 0 < n → IsTrue (not (m == 0) && not (n == 0))
both_some m n p q = grind (arith, nat_tests)

true_not_false : true ≡ false → ⊥
true_not_false e = cc

both_held : (s : Slot) (view : ViewValue) → is_text s ≡ true
    → ((0 < length view.bytes) × (0 < readable s)) ⊎ (is_text s ≡ false) → (0 < length view.bytes) × (0 < readable s)
both_held s view text (inl some) = some
both_held s view text (inr other) = absurd (true_not_false (sym text ∙ other))

-- a refused joining leaves all as it was, and both were not empty
pub back_again : (names : List Slot) (target src : ℕ) (view back : ViewValue) (free kept d e : Slot) (new : List Slot)
    → first_cause (join_causes names target src) ≡ None
    → (slice_index_or names src d ≡ View view) × (free ≡ Free)
    → (back ≡ view) × (kept ≡ slice_index_or (slice_set names src free) target e)
    → ((0 < length view.bytes) × (0 < readable (slice_index_or (slice_set names src free) target e)))
    ⊎ (is_text (slice_index_or (slice_set names src free) target e) ≡ false)
    → new ≡ slice_set (slice_set (slice_set names src free) target kept) src (View back)
    → IsTrue (not (readable (slot_named names src) == 0) && not (readable (slot_named names target) == 0)) × (new ≡ names)
back_again names target src view back free kept d e new none took stays refused is =
    let inside = names_inside names target src none in
    let (same, kept_is) = stays in
    let at : slot_named names src ≡ View view = get_or_default names src Free d inside.1 ∙ took.0 in
    let free_is = took.1 in
    let long : target < length (slice_set names src free) = omega (arith, length-set names src free, inside.0) in
    let there : slice_index_or (slice_set names src free) target e ≡ slot_named names target =
    get_or_default (slice_set names src free) target e Free long ∙ target_kept names target src view none at free in
    let text = ap is_text there ∙ target_is_text names target src none in
    let (view_some, target_some) = both_held (slice_index_or (slice_set names src free) target e) view text refused in
    let some : 0 < readable (slot_named names src) = subst (λ (s : Slot). 0 < readable s) (sym at) view_some in
    let some' : 0 < readable (slot_named names target) = subst (λ (s : Slot). 0 < readable s) there target_some in
    let all : new ≡ names =
    is ∙ ap (λ (f : Slot). slice_set (slice_set (slice_set names src f) target kept) src (View back)) free_is
    ∙ ap (λ (k : Slot). slice_set (slice_set (slice_set names src Free) target k) src (View back))
    (kept_is ∙ ap (λ (f : Slot). slice_index_or (slice_set names src f) target e) free_is)
    ∙ ap (λ (v : ViewValue). slice_set (slice_set (slice_set names src Free) target
    (slice_index_or (slice_set names src Free) target e)) src (View v)) same
    ∙ restored names target src view e inside.1 at in
    (both_some (readable (slot_named names src)) (readable (slot_named names target)) some some', all)

-- ---- the command, by its end

-- an append or prepend of a view with bytes to a text with bytes, against which no cause holds, may be refused for want of
-- memory, and each name holds what it held
pub joined_memory : (end : End) (old new : List Slot) (target src : ℕ) → first_cause (join_causes old target src) ≡ None
    → IsTrue (not (readable (slot_named old src) == 0) && not (readable (slot_named old target) == 0)) → new ≡ old
    → Step old (joining end target src) (Refused Memory) new
joined_memory Back old new target src none some same = (none, some, subst (MayFree (src ∷ []) old) (sym same) (MayFree-none (src ∷ []) old))
joined_memory Front old new target src none some same = (
  none,
  some,
  subst (MayFree (src ∷ []) old) (sym same) (MayFree-none (src ∷ []) old),
)
