-- The laws of filling several buffers.
--     AreFilled                                     bytes that fit were written into the spare capacity, from the
--                                                   first buffer on
--     drop_past, take_past, drop_both, take_both    the first items and the rest of two concatenated lists
--     same_part                                     parts with equal bytes and capacity are equal
--     fill-nil, fill-append, spare-fill,            filling twice is filling once, filling with nothing changes
--     filled_nothing, filled_unchanged,             nothing, and takes as much of the spare capacity
--     filled_lessens, filled_composes
use Rattle.std.specs.Prelude.{◌≡◌, ℕ, ◌+◌, ◌-◌, ◌<◌, ◌≤◌, List, [], ◌∷◌, ◌++◌, length, take, drop, refl}
use Rattle.std.proofs.Common.{sym, ap, ◌∙◌, arith, append_assoc, append-nil, length-append, length-drop, length-take, ⊎_elim, take_all}
use Rattle.std.proofs.lemmas.Bool.{cases_lt}
use Rattle.std.proofs.Math.Seq.{drop-append-add, take-append-add, take-nil, drop-nil}
use Rattle.std.proofs.lemmas.List.{take-append-le, drop-append-le, drop_all}
use Rattle.std.proofs.lemmas.List.Sums.{sum_by-cons}
use Rattle.iobufs_core.specs.Part.{Part, part_put}
use Rattle.iobufs.specs.Parts.{parts_fill, parts_spare}

-- filling these bytes in, which fit
abbrev pub AreFilled : List Part → List ℕ → List Part → Type 0
AreFilled a w b = (length w ≤ parts_spare a) × (b ≡ parts_fill a w)

pub drop_past : {A : Type 0} (n : ℕ) (xs ys : List A) → length xs ≤ n → drop n (xs ++ ys) ≡ drop (n - length xs) ys
drop_past n xs ys l =
    let k : n ≡ length xs + (n - length xs) = omega arith in
    ap (λ m. drop m (xs ++ ys)) k ∙ drop-append-add xs ys (n - length xs)

pub take_past : {A : Type 0} (n : ℕ) (xs ys : List A) → length xs ≤ n → take n (xs ++ ys) ≡ xs ++ take (n - length xs) ys
take_past n xs ys l =
    let k : n ≡ length xs + (n - length xs) = omega arith in
    ap (λ m. take m (xs ++ ys)) k ∙ take-append-add xs ys (n - length xs)

-- a front and a rest of two lists in order
pub take_both : {A : Type 0} (n : ℕ) (u v : List A) → take n (u ++ v) ≡ take n u ++ take (n - length u) v
take_both n u v =
    ⊎_elim
    (λ (h : n < length u). let z : n - length u ≡ 0 = omega arith in
    take-append-le n u v (omega arith) ∙ sym (append-nil (take n u)) ∙ ap (λ m. take n u ++ take m v) (sym z))
    (λ (h : length u ≤ n). take_past n u v h ∙ ap (λ w. w ++ take (n - length u) v) (sym (take_all n u h)))
    (cases_lt n (length u))

pub drop_both : {A : Type 0} (n : ℕ) (u v : List A) → drop n (u ++ v) ≡ drop n u ++ drop (n - length u) v
drop_both n u v =
    ⊎_elim
    (λ (h : n < length u). let z : n - length u ≡ 0 = omega arith in
    drop-append-le n u v (omega arith) ∙ ap (λ m. drop n u ++ drop m v) (sym z))
    (λ (h : length u ≤ n). drop_past n u v h ∙ ap (λ w. w ++ drop (n - length u) v) (sym (drop_all n u h)))
    (cases_lt n (length u))

pub same_part : (p q : Part) → p.filled ≡ q.filled → p.spare ≡ q.spare → p ≡ q
same_part p q a b = λ i. record { filled = a i; spare = b i }

-- no bytes change nothing
pub fill-nil : (parts : List Part) → parts_fill parts [] ≡ parts
fill-nil [] = refl
fill-nil (p ∷ parts) =
    let a = same_part (part_put p (take p.spare [])) p
    (ap (λ w. p.filled ++ w) (take-nil p.spare) ∙ append-nil p.filled) (rw take-nil (omega arith)) in
    let b = ap (λ w. parts_fill parts w) (drop-nil p.spare) ∙ fill-nil parts in
    λ i. a i ∷ b i

part_put-append : (p : Part) (u v : List ℕ)
    → part_put p (take p.spare (u ++ v)) ≡ part_put (part_put p (take p.spare u)) (take (p.spare - length (take p.spare u)) v)
part_put-append p u v =
    let n = length-append u v in
    let t = length-take p.spare u in
    let s : p.spare - length (take p.spare u) ≡ p.spare - length u = omega arith in
    let e = take_both p.spare u v in
    let a = length-append (take p.spare u) (take (p.spare - length u) v) in
    same_part _ _
    (ap (λ w. p.filled ++ w) e ∙ sym (append_assoc p.filled (take p.spare u) (take (p.spare - length u) v))
    ∙ ap (λ k. (p.filled ++ take p.spare u) ++ take k v) (sym s))
    (rw (e, s) (omega arith))

-- bytes one after the other are both at once
pub fill-append : (parts : List Part) (u v : List ℕ) → parts_fill parts (u ++ v) ≡ parts_fill (parts_fill parts u) v
fill-append [] u v = refl
fill-append (p ∷ parts) u v =
    let t = length-take p.spare u in
    let s : p.spare - length u ≡ p.spare - length (take p.spare u) = omega arith in
    let a = part_put-append p u v in
    let b = ap (λ w. parts_fill parts w) (drop_both p.spare u v ∙ ap (λ k. drop p.spare u ++ drop k v) s)
    ∙ fill-append parts (drop p.spare u) (drop (p.spare - length (take p.spare u)) v) in
    λ i. a i ∷ b i

-- the room lessens by the length
pub spare-fill : (parts : List Part) (w : List ℕ) → length w ≤ parts_spare parts
    → parts_spare (parts_fill parts w) ≡ parts_spare parts - length w
spare-fill [] w l = omega arith
spare-fill (p ∷ parts) w l =
    let d : length (drop p.spare w) ≡ length w - p.spare = length-drop p.spare w in
    let t = length-take p.spare w in
    let a = sum_by-cons (λ (x : Part). x.spare) p parts in
    let b = sum_by-cons (λ (x : Part). x.spare) (part_put p (take p.spare w)) (parts_fill parts (drop p.spare w)) in
    let ih = spare-fill parts (drop p.spare w) (omega arith) in
    omega arith

-- the laws of the trait to fill capacity
pub filled_nothing : (parts : List Part) → AreFilled parts [] parts
filled_nothing parts = (omega arith, sym (fill-nil parts))

pub filled_unchanged : (a b : List Part) → AreFilled a [] b → b ≡ a
filled_unchanged a b filled = filled.1 ∙ fill-nil a

pub filled_lessens : (a b : List Part) (w : List ℕ) → AreFilled a w b → parts_spare a ≡ parts_spare b + length w
filled_lessens a b w filled = omega (arith, filled.0, ap parts_spare filled.1, spare-fill a w filled.0)

pub filled_composes : (a b c : List Part) (u v : List ℕ) → AreFilled a u b → AreFilled b v c → AreFilled a (u ++ v) c
filled_composes a b c u v first second = (
  omega (arith, length-append u v, filled_lessens a b u first, second.0),
  second.1 ∙ ap (λ x. parts_fill x v) first.1 ∙ sym (fill-append a u v),
)
