-- Puts compose, and each takes its length of the spare capacity.
--     IsPut                          these bytes fit, and the buffer became what it is with them put
--     put_nothing, put_unchanged,    no bytes change nothing, two puts are one, and each takes its bytes of the spare
--     put_composes, put_lessens      capacity
--     part_copied-filled             a copy leaves the other bytes
use Rattle.std.specs.Prelude.{◌≡◌, ℕ, ◌+◌, ◌-◌, ◌≤◌, List, [], ◌++◌, length, drop}
use Rattle.std.proofs.Common.{arith, append-nil, append_assoc, length-append, ap, refl, sym, ◌∙◌}
use Rattle.std.proofs.lemmas.Grind.{common_steps}
use Rattle.std.proofs.lemmas.Bool.Decides.{nat_tests}
use Rattle.iobufs_core.specs.Part.{Part, part_put, part_copied}

-- filling with these bytes, which fit
abbrev pub IsPut : Part → List ℕ → Part → Type 0
IsPut a w b = (length w ≤ a.spare) × (b ≡ part_put a w)

part_put-nothing : (part : Part) → part ≡ part_put part []
part_put-nothing part =
    let spare : part.spare - 0 ≡ part.spare = omega arith in
    rw (append-nil, spare) refl

pub put_nothing : (part : Part) → IsPut part [] part
put_nothing part = (omega arith, part_put-nothing part)

pub put_unchanged : (a b : Part) → IsPut a [] b → b ≡ a
put_unchanged a b put = put.1 ∙ sym (part_put-nothing a)

pub put_composes : (a b c : Part) (u v : List ℕ) → IsPut a u b → IsPut b v c → IsPut a (u ++ v) c
put_composes a b c u v first second =
    let e = first.1 in
    let f = second.1 in
    let left : b.spare ≡ a.spare - length u = ap (λ (p : Part). p.spare) e in
    let filled = append_assoc a.filled u v in
    let spare : a.spare - length u - length v ≡ a.spare - length (u ++ v) = omega (arith, length-append u v) in
    (omega (arith, length-append u v, left, first.0, second.0), rw (f, e) cc)

pub put_lessens : (a b : Part) (w : List ℕ) → IsPut a w b → a.spare ≡ b.spare + length w
put_lessens a b w put = omega (arith, put.0, ap (λ (p : Part). p.spare) put.1)

pub part_copied-filled : (part : Part) (n : ℕ) → n ≤ length part.filled → (part_copied part n).filled ≡ drop n part.filled
part_copied-filled part n h = grind (arith, nat_tests, common_steps)
