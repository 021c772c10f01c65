-- Views as marked texts without cuts.
--     view_rest-bytes, marked_view        what a split leaves are the other bytes; a view is a well-formed marked
--                                         text
--     text_rest-of_view,                  a view's rest, advance and chunk are those of its marked text
--     advanced-of_view, chunks-of_view
--     taken_of_view, taken-whole          bytes taken from a view are a slice of it, and all of them the view itself
use Rattle.std.specs.Prelude.{◌≡◌, ◌≢◌, ℕ, ◌+◌, ◌-◌, ◌≤◌, length, drop, refl, [], ◌∷◌}
use Rattle.std.specs.declared.ops.Bound.TheVariants.{Included, Excluded}
use Rattle.std.proofs.Common.{arith, take_all, ◌∙◌}
use Rattle.std.proofs.lemmas.Grind.{common_steps}
use Rattle.std.proofs.lemmas.List.{drop-take}
use Rattle.std.proofs.lemmas.Bool.Decides.{nat_tests}
use Rattle.iobufs_core.specs.Chunks.{full_chunks}
use Rattle.iobufs_core.specs.View.{View, IsView, view_rest, view_slice, view_advanced}
use Rattle.iobufs_core.specs.MarkedText.{IsMarked, of_view, text_rest, text_right, text_advanced, text_chunks, taken_view}

pub view_rest-bytes : (v : View) (n : ℕ) → n ≤ length v.bytes → (view_rest v n).bytes ≡ drop n v.bytes
view_rest-bytes v n h = grind (arith, nat_tests, common_steps)

pub marked_view : (v : View) → IsView v → IsMarked (of_view v)
marked_view v room = let len : length v.bytes - 0 ≡ length v.bytes = omega arith in rw len room

pub text_rest-of_view : (v : View) (n : ℕ) → n ≤ length v.bytes → of_view (view_rest v n) ≡ text_rest (of_view v) n
unfolding text_right
text_rest-of_view v n h = grind (arith, nat_tests, common_steps)

pub advanced-of_view : (v : View) (n : ℕ) → n ≤ length v.bytes → of_view (view_advanced v n) ≡ text_advanced (of_view v) n
unfolding text_right
advanced-of_view v n h = grind (arith, nat_tests, common_steps)

pub chunks-of_view : (v : View) → text_chunks (of_view v) ≡ full_chunks (v.bytes ∷ [])
unfolding text_chunks
chunks-of_view v = refl

pub taken_of_view : (v : View) (skip n : ℕ) → taken_view (of_view v) skip n ≡ view_slice v (Included skip) (Excluded (skip + n))
unfolding taken_view
taken_of_view v skip n = grind (arith, nat_tests, common_steps, drop-take)

-- all that there is, is taken as it is
pub taken-whole : (v : View) (skip n : ℕ) → skip + n ≤ length v.bytes → n ≡ length v.bytes → n ≢ 0 → taken_view (of_view v) skip n ≡ v
taken-whole v skip n within whole some =
    let none : skip ≡ 0 = omega arith in
    let all = take_all n v.bytes (omega arith) in
    taken_of_view v skip n ∙ grind (arith, nat_tests, common_steps)
