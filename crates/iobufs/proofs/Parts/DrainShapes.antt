-- The buffers that draining leaves, by the definitions: each without its share, and those that can hold a byte.
use Rattle.iobufs.proofs.Text.{HaveCapacity, List, Part, [], ap, arith, cond-false, cond-true, cond_both, drop, drop-nil, eqb-true, filter-append, kept_parts, le-ltb, length, length-append, length-drop, lt-ltb, ltb-false, ltb-true, nat_eq, nat_lt, nil_from_length, part_capacity, part_drained, parts_capacity, parts_drained, parts_filled, parts_shared_out, refl, same_part, sum_by-cons, sym, with_capacity, ℕ, ◌++◌, ◌-◌, ◌<◌, ◌∙◌, ◌∷◌, ◌≡◌, ◌≤◌}

-- parts that can all hold a byte stay
pub with_capacity-all : (parts : List Part) → HaveCapacity parts → with_capacity parts ≡ parts
with_capacity-all [] able = refl
with_capacity-all (p ∷ parts) able =
    cond-true (nat_lt 0 (part_capacity p)) (p ∷ with_capacity parts) (with_capacity parts) (lt-ltb 0 (part_capacity p) able.0)
    ∙ ap (λ ps. p ∷ ps) (with_capacity-all parts able.1)

-- no bytes change nothing
pub shared_out-none : (parts : List Part) → parts_shared_out parts 0 ≡ parts
shared_out-none [] = refl
shared_out-none (p ∷ parts) =
    let none : 0 - length p.filled ≡ 0 = omega arith in
    λ i. p ∷ (ap (parts_shared_out parts) none ∙ shared_out-none parts) i

-- with two or more that can all hold a byte, no bytes need no case of their own
pub drained-several : (parts : List Part) (n : ℕ) → 1 < length parts → HaveCapacity parts
    → parts_drained parts n ≡ kept_parts (parts_shared_out parts n)
drained-several [] n several able = absurd (omega arith)
drained-several (p ∷ []) n several able = absurd (omega arith)
drained-several (p ∷ q ∷ parts) n several able =
    cond_both (nat_eq n 0) (p ∷ q ∷ parts) (kept_parts (parts_shared_out (p ∷ q ∷ parts) n))
    (λ ps. ps ≡ kept_parts (parts_shared_out (p ∷ q ∷ parts) n))
    (λ e. sym (cc (eqb-true n 0 e, shared_out-none (p ∷ q ∷ parts), with_capacity-all (p ∷ q ∷ parts) able)))
    (λ _. refl)

-- less than the first part holds goes from it alone
pub shared_out-first : (p : Part) (parts : List Part) (n : ℕ) → n < length p.filled
    → parts_shared_out (p ∷ parts) n ≡ part_drained p n ∷ parts
shared_out-first p parts n less =
    ap (λ ps. part_drained p n ∷ ps) (ap (parts_shared_out parts) (omega arith) ∙ shared_out-none parts)

-- the parts that can hold a byte
pub able-with_capacity : (parts : List Part) → HaveCapacity (with_capacity parts)
able-with_capacity [] = tt
able-with_capacity (p ∷ parts) =
    let ih = able-with_capacity parts in
    cond_both (nat_lt 0 (part_capacity p)) (p ∷ with_capacity parts) (with_capacity parts) HaveCapacity
    (λ e. (ltb-true 0 (part_capacity p) e, ih)) (λ _. ih)

-- the parts that can hold a byte have the capacity of all
pub capacity-with_capacity : (parts : List Part) → parts_capacity (with_capacity parts) ≡ parts_capacity parts
capacity-with_capacity [] = refl
capacity-with_capacity (p ∷ parts) =
    let ih = capacity-with_capacity parts in
    let all = sum_by-cons part_capacity p parts in
    cond_both (nat_lt 0 (part_capacity p)) (p ∷ with_capacity parts) (with_capacity parts)
    (λ ps. parts_capacity ps ≡ parts_capacity (p ∷ parts))
    (λ _. omega (arith, sum_by-cons part_capacity p (with_capacity parts)))
    (λ e. omega (arith, ltb-false 0 (part_capacity p) e))

-- parts that lose their share of some bytes have no more capacity than before
pub capacity-shared_out : (parts : List Part) (n : ℕ) → parts_capacity (parts_shared_out parts n) ≤ parts_capacity parts
capacity-shared_out [] n = omega arith
capacity-shared_out (p ∷ parts) n =
    let ih = capacity-shared_out parts (n - length p.filled) in
    let d = length-drop n p.filled in
    omega (
      arith,
      sum_by-cons part_capacity p parts,
      sum_by-cons part_capacity (part_drained p n) (parts_shared_out parts (n - length p.filled)),
    )

-- a part more after others
pub with_capacity-push : (parts : List Part) (p : Part) → 0 < part_capacity p
    → with_capacity (parts ++ p ∷ []) ≡ with_capacity parts ++ p ∷ []
with_capacity-push parts p more =
    filter-append (λ q. nat_lt 0 (part_capacity q)) parts (p ∷ [])
    ∙ ap (λ ps. with_capacity parts ++ ps) (with_capacity-all (p ∷ []) (more, tt))

-- one that can't hold a byte goes, wherever it stands
pub with_capacity-spent : (ahead parts : List Part) (p : Part) → part_capacity p ≡ 0
    → with_capacity (ahead ++ p ∷ parts) ≡ with_capacity (ahead ++ parts)
with_capacity-spent ahead parts p none =
    filter-append (λ q. nat_lt 0 (part_capacity q)) ahead (p ∷ parts)
    ∙ ap (λ ps. with_capacity ahead ++ ps)
    (cond-false (nat_lt 0 (part_capacity p)) (p ∷ with_capacity parts) (with_capacity parts) (le-ltb 0 (part_capacity p) (omega arith)))
    ∙ sym (filter-append (λ q. nat_lt 0 (part_capacity q)) ahead parts)

-- parts that hold no bytes lose none
drained-empty : (p : Part) (n : ℕ) → length p.filled ≡ 0 → part_drained p n ≡ p
drained-empty p n none =
    let nil = nil_from_length p.filled none in
    same_part (part_drained p n) p (ap (drop n) nil ∙ drop-nil n ∙ sym nil) refl

-- parts without bytes before others lose none, and the others lose their share
pub shared_out-behind : (empty parts : List Part) (n : ℕ) → length (parts_filled empty) ≡ 0
    → parts_shared_out (empty ++ parts) n ≡ empty ++ parts_shared_out parts n
shared_out-behind [] parts n none = refl
shared_out-behind (p ∷ empty) parts n none =
    let both = length-append p.filled (parts_filled empty) in
    let bare : length (parts_filled empty) ≡ 0 = omega (arith, both, none) in
    let all : n - length p.filled ≡ n = omega (arith, both, none) in
    let rest = ap (parts_shared_out (empty ++ parts)) all ∙ shared_out-behind empty parts n bare in
    λ i. (drained-empty p n (omega (arith, both, none))) i ∷ rest i

-- all parts of two rows can hold a byte, and those of each
pub able-both : (ps qs : List Part) → HaveCapacity ps → HaveCapacity qs → HaveCapacity (ps ++ qs)
able-both [] qs first second = second
able-both (p ∷ ps) qs first second = (first.0, able-both ps qs first.1 second)

-- where each part of two lists can hold a byte, each of the first can
pub able-front : (ps qs : List Part) → HaveCapacity (ps ++ qs) → HaveCapacity ps
able-front [] qs able = tt
able-front (p ∷ ps) qs able = (able.0, able-front ps qs able.1)

-- where each part of two lists can hold a byte, each of the second can
pub able-rest : (ps qs : List Part) → HaveCapacity (ps ++ qs) → HaveCapacity qs
able-rest [] qs able = able
able-rest (p ∷ ps) qs able = able-rest ps qs able.1
