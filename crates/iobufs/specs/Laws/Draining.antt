-- The laws of draining several buffers.
--     filled-drained                the bytes after the first n remain
--     joined-part_chunks,           the chunks join to the bytes, and none is empty
--     full-part_chunks
--     the rest                      lemmas about buffers that are dropped for lack of capacity, or that share n bytes
--                                   out
use Rattle.std.specs.Prelude.{◌≡◌, ℕ, ◌-◌, ◌==◌, List, [], ◌∷◌, ◌++◌, length, drop, map, refl, nat_lt}
use Rattle.std.specs.List.{flat_map}
use Rattle.std.proofs.Common.{sym, ap, ◌∙◌, arith, append-nil}
use Rattle.std.proofs.lemmas.Bool.{cond_both, eqb-true, ltb-false}
use Rattle.std.proofs.Math.Seq.{drop-nil}
use Rattle.std.proofs.lemmas.List.{nil_from_length}
use Rattle.iobufs_core.specs.Chunks.{full_chunks}
use Rattle.iobufs_core.specs.ChunkLaws.{joined-full_chunks, full_chunks-twice}
use Rattle.iobufs_core.specs.Part.{Part, part_capacity}
use Rattle.iobufs.specs.Laws.Filling.{drop_both}
use Rattle.iobufs.specs.Parts.{parts_filled, with_capacity, parts_or_default, kept_parts, parts_shared_out, parts_drained, parts_chunks}

-- parts that can't hold a byte have none
pub filled-with_capacity : (parts : List Part) → parts_filled (with_capacity parts) ≡ parts_filled parts
filled-with_capacity [] = refl
filled-with_capacity (p ∷ parts) =
    let ih = filled-with_capacity parts in
    cond_both (nat_lt 0 (part_capacity p)) (p ∷ with_capacity parts) (with_capacity parts)
    (λ ps. parts_filled ps ≡ p.filled ++ parts_filled parts)
    (λ _. ap (λ w. p.filled ++ w) ih)
    (λ e. let none : p.filled ≡ [] = nil_from_length p.filled (omega (arith, ltb-false 0 (part_capacity p) e)) in rw none ih)

pub filled-or_default : (parts : List Part) → parts_filled (parts_or_default parts) ≡ parts_filled parts
filled-or_default [] = refl
filled-or_default (p ∷ parts) = refl

pub filled-kept_parts : (parts : List Part) → parts_filled (kept_parts parts) ≡ parts_filled parts
filled-kept_parts parts = filled-or_default (with_capacity parts) ∙ filled-with_capacity parts

pub filled-shared_out : (parts : List Part) (n : ℕ) → parts_filled (parts_shared_out parts n) ≡ drop n (parts_filled parts)
filled-shared_out [] n = sym (drop-nil n)
filled-shared_out (p ∷ parts) n = ap (λ w. drop n p.filled ++ w) (filled-shared_out parts (n - length p.filled))
    ∙ sym (drop_both n p.filled (parts_filled parts))

pub filled-drained : (parts : List Part) (n : ℕ) → parts_filled (parts_drained parts n) ≡ drop n (parts_filled parts)
filled-drained [] n = sym (drop-nil n)
filled-drained (p ∷ []) n = append-nil (drop n p.filled) ∙ ap (drop n) (sym (append-nil p.filled))
filled-drained (p ∷ q ∷ parts) n =
    cond_both (n == 0) (p ∷ q ∷ parts) (kept_parts (parts_shared_out (p ∷ q ∷ parts) n))
    (λ ps. parts_filled ps ≡ drop n (parts_filled (p ∷ q ∷ parts)))
    (λ e. rw (eqb-true n 0 e))
    (λ _. filled-kept_parts (parts_shared_out (p ∷ q ∷ parts) n) ∙ filled-shared_out (p ∷ q ∷ parts) n)

-- the chunks are the filled bytes, and none is empty
joined-filled : (parts : List Part) → flat_map (λ chunk. chunk) (map (λ (p : Part). p.filled) parts) ≡ parts_filled parts
joined-filled [] = refl
joined-filled (p ∷ parts) = ap (λ w. p.filled ++ w) (joined-filled parts)

pub joined-part_chunks : (parts : List Part) → flat_map (λ chunk. chunk) (parts_chunks parts) ≡ parts_filled parts
joined-part_chunks parts = joined-full_chunks (map (λ p. p.filled) parts) ∙ joined-filled parts

pub full-part_chunks : (parts : List Part) → full_chunks (parts_chunks parts) ≡ parts_chunks parts
full-part_chunks parts = full_chunks-twice (map (λ p. p.filled) parts)
