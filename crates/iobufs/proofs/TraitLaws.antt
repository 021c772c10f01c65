-- The requirements of the crate `bytes` on readers and writers.
use Rattle.std.specs.Prelude.{◌≡◌, ℕ, ◌+◌, ◌-◌, ◌≤◌, ◌==◌, List, [], ◌∷◌, ◌++◌, length, drop, refl, nat_lt}
use Rattle.std.proofs.Common.{sym, ap, ◌∙◌, arith, append_assoc}
use Rattle.std.proofs.lemmas.Bool.{cond_both, ltb-false}
use Rattle.std.proofs.lemmas.List.Sums.{sum_by-cons}
use Rattle.iobufs_core.specs.MarkedText.{MarkedText, text_advanced}
use Rattle.iobufs_core.specs.Part.{Part, part_capacity}
use Rattle.iobufs_core.specs.ReadBytes.{bytes-advanced}
use Rattle.iobufs.specs.Parts.{parts_fill, parts_filled, parts_spare, with_capacity, parts_or_default, kept_parts, parts_shared_out, parts_drained}
use Rattle.iobufs.specs.Building.{Building, building_bytes, building_room}
use Rattle.iobufs.specs.Laws.Building.{IsBuilderPut, put_lessens}
use Rattle.iobufs.specs.Laws.Draining.{filled-drained}
use Rattle.iobufs_core.specs.Items.{items_bytes}

-- the bytes that are left of an `IoBufs`
pub text_drops : (text : MarkedText) (n : ℕ) → n ≤ length text.bytes → (text_advanced text n).bytes ≡ drop n text.bytes
text_drops = bytes-advanced

-- the bytes that are left of writable buffers
pub parts_drop : (parts : List Part) (n : ℕ) → parts_filled (parts_drained parts n) ≡ drop n (parts_filled parts)
parts_drop = filled-drained

-- parts keep their spare capacity when they are drained
spare_able : (parts : List Part) → parts_spare (with_capacity parts) ≡ parts_spare parts
spare_able [] = refl
spare_able (p ∷ parts) =
    let ih = spare_able parts in
    let a = sum_by-cons (λ (x : Part). x.spare) p parts in
    cond_both (nat_lt 0 (part_capacity p)) (p ∷ with_capacity parts) (with_capacity parts) (λ ps. parts_spare ps ≡ parts_spare (p ∷ parts))
    (λ _. let b = sum_by-cons (λ (x : Part). x.spare) p (with_capacity parts) in omega (arith, a, b, ih))
    (λ e. omega (arith, ltb-false 0 (part_capacity p) e, a, ih))

spare_default : (parts : List Part) → parts_spare (parts_or_default parts) ≡ parts_spare parts
spare_default [] = refl
spare_default (p ∷ parts) = refl

spare_shared : (parts : List Part) (n : ℕ) → parts_spare (parts_shared_out parts n) ≡ parts_spare parts
spare_shared [] n = refl
spare_shared (p ∷ parts) n =
    let a = sum_by-cons (λ (x : Part). x.spare) p parts in
    let b = sum_by-cons (λ (x : Part). x.spare) (record { filled = drop n p.filled; spare = p.spare })
    (parts_shared_out parts (n - length p.filled)) in
    let ih = spare_shared parts (n - length p.filled) in
    omega (arith, a, b, ih)

-- their spare capacity stays
pub parts_keep : (parts : List Part) (n : ℕ) → parts_spare (parts_drained parts n) ≡ parts_spare parts
parts_keep [] n = refl
parts_keep (p ∷ []) n = refl
parts_keep (p ∷ q ∷ parts) n =
    cond_both (n == 0) (p ∷ q ∷ parts) (kept_parts (parts_shared_out (p ∷ q ∷ parts) n))
    (λ ps. parts_spare ps ≡ parts_spare (p ∷ q ∷ parts))
    (λ _. refl)
    (λ _. let all = parts_shared_out (p ∷ q ∷ parts) n in spare_default (with_capacity all) ∙ spare_able all
    ∙ spare_shared (p ∷ q ∷ parts) n)

-- a put is an append
pub built_bytes : (a b : Building) (w : List ℕ) → IsBuilderPut a w b → building_bytes b ≡ building_bytes a ++ w
built_bytes a b w put = ap building_bytes put.1 ∙ sym (append_assoc (items_bytes a.front) a.last w)

-- a put lessens the remaining capacity
pub built_room : (a b : Building) (w : List ℕ) → IsBuilderPut a w b → building_room a ≡ building_room b + length w
built_room = put_lessens

-- A put into several buffers is no append to their bytes: it fills the first spare capacity, before bytes of later buffers. So a row of
-- buffers is no
-- `BufMut` of that crate, of which a put appends to what is written.
pub fills_between : parts_filled (parts_fill
    ((record { filled = 1 ∷ []; spare = 1 }) ∷ (record { filled = 2 ∷ []; spare = 1 }) ∷ []) (9 ∷ [])) ≡ 1 ∷ 9 ∷ 2 ∷ []
fills_between = refl
