-- The items of a value join to its encoding.
--     joins-put, joins-view,    the items of bytes, of a view and of a `Bytes` join to what is written of them
--     joins-bytes
--     view_of_bytes-bytes       the view of a `Bytes` has its bytes
use Rattle.std.specs.Prelude.{◌≡◌, ℕ, List, ◌∷◌, [], ◌++◌, length}
use Rattle.std.proofs.Common.{append-nil, ap, refl, arith, ◌∙◌}
use Rattle.std.proofs.lemmas.Grind.{common_steps}
use Rattle.std.proofs.lemmas.Bool.Decides.{nat_tests}
use Rattle.iobufs_core.specs.Spelling.{spell}
use Rattle.iobufs_core.specs.View.{View, view_of_bytes}
use Rattle.iobufs_core.specs.Items.{put_item, items_bytes}
use Rattle.iobufs_core.specs.Wire.{bytes_items, bytes_written, view_items, view_written}

pub joins-put : (bytes : List ℕ) → items_bytes (put_item bytes ∷ []) ≡ bytes
joins-put bytes = append-nil bytes

pub joins-view : (view : View) → items_bytes (view_items view) ≡ view_written view
joins-view view = ap (λ xs. spell (length view.bytes) ++ xs) (append-nil view.bytes)

pub view_of_bytes-bytes : (bytes : List ℕ) → (view_of_bytes bytes).bytes ≡ bytes
view_of_bytes-bytes [] = refl
view_of_bytes-bytes (b ∷ bs) = grind (arith, nat_tests, common_steps)

pub joins-bytes : (bytes : List ℕ) → items_bytes (bytes_items bytes) ≡ bytes_written bytes
joins-bytes bytes = ap (λ xs. spell (length bytes) ++ xs) (append-nil (view_of_bytes bytes).bytes ∙ view_of_bytes-bytes bytes)
