-- The bytes of a header in an array.
use Rattle.std.proofs.Common.{◌≡◌, ℕ, ◌+◌, ◌-◌, ◌≤◌, List, ◌++◌, length, take, drop, ap, ◌∙◌, arith, length-take}
use Rattle.std.proofs.lemmas.List.{drop-append-le}
use Rattle.std.proofs.lemmas.Slice.{take-put_mid}
use borrow.Rule.Slice.PartMut.{put_mid}
use Rattle.iobufs_core.specs.Part.{Part, part_put}
use Rattle.iobufs_core.specs.PartLaws.{IsPut}

-- bytes between a start and an end, and the space after the end
abbrev pub head_part : List ℕ → ℕ → ℕ → Part
head_part bytes start end = record { filled = drop start (take end bytes); spare = 32 - end }

-- bytes that are written after the end follow the others
pub head_put : (bytes src new : List ℕ) (start end k n : ℕ) (old : Part) → start ≤ end → end ≤ length bytes → n ≡ length src → n ≤ old.spare
    → new ≡ src
    → head_part bytes start end ≡ old → IsPut old src (head_part (put_mid end k bytes new) start (end + n))
head_put bytes src new start end k n old order within long fits same is =
    let front = take end bytes in
    let filled : drop start (take (end + n) (put_mid end k bytes new)) ≡ drop start front ++ src =
    ap (λ w. drop start (take (end + n) (put_mid end k bytes w))) same
    ∙ ap (drop start) (take-put_mid end k bytes src (end + n) (ap (λ m. end + m) long) within)
    ∙ drop-append-le start front src (omega (arith, order, within, length-take end bytes)) in
    let spare : 32 - (end + n) ≡ 32 - end - length src = omega (arith, long) in
    (omega (arith, long, fits), (λ i. record { filled = filled i; spare = spare i }) ∙ ap (λ (p : Part). part_put p src) is)
