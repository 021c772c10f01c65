-- Puts, `set_len` and overwriting keep capacities, the number of buffers, and their invariant (`IsParts`).
use Rattle.iobufs.proofs.Text.{HaveCapacity, IsParts, List, Part, [], ap, arith, drop, length, length-append, length-drop, length-replicate, length-take, min, part_capacity, parts_capacity, parts_fill, parts_filled, parts_overwritten, parts_spare, parts_with_len, refl, replicate, suc, sum_by, sum_by-cons, sym, take, ℕ, ◌++◌, ◌+◌, ◌-◌, ◌∙◌, ◌∷◌, ◌≡◌}

-- sums over parts, as an iterator gives them
pub filled-sum : (parts : List Part) → sum_by (λ (p : Part). length p.filled) parts ≡ length (parts_filled parts)
filled-sum [] = refl
filled-sum (p ∷ parts) = sum_by-cons _ p parts ∙ ap (λ n. length p.filled + n) (filled-sum parts)
    ∙ sym (length-append p.filled (parts_filled parts))

-- the capacity of all is their bytes and their room
pub capacity-parts : (parts : List Part) → parts_capacity parts ≡ length (parts_filled parts) + parts_spare parts
capacity-parts [] = refl
capacity-parts (p ∷ parts) =
    omega (
      arith,
      capacity-parts parts,
      length-append p.filled (parts_filled parts),
      sum_by-cons part_capacity p parts,
      sum_by-cons (λ (x : Part). x.spare) p parts,
    )

pub ruleset sums = (filled-sum, capacity-parts)

-- part by part of the same capacity
abbrev pub HaveSame : List Part → List Part → Type 0
HaveSame [] [] = Unit {0}
HaveSame [] (q ∷ qs) = ⊥
HaveSame (p ∷ ps) [] = ⊥
HaveSame (p ∷ ps) (q ∷ qs) = (part_capacity p ≡ part_capacity q) × HaveSame ps qs

-- parts each of which has the same capacity as before are as many, have the same capacity together, and can each hold a byte if they could
same-all : (ps qs : List Part) → HaveSame ps qs
    → (length ps ≡ length qs) × (parts_capacity ps ≡ parts_capacity qs) × (HaveCapacity ps → HaveCapacity qs)
same-all [] [] h = (refl, refl, λ able. able)
same-all [] (q ∷ qs) h = absurd h
same-all (p ∷ ps) [] h = absurd h
same-all (p ∷ ps) (q ∷ qs) h =
    let (count, capacity, able) = same-all ps qs h.1 in (
      ap suc count,
      omega (arith, capacity, h.0, sum_by-cons part_capacity p ps, sum_by-cons part_capacity q qs),
      λ a. (omega (arith, h.0, a.0), able a.1),
    )

-- parts each of which has the same capacity as before have the same capacity together
pub same-capacity : (ps qs : List Part) → HaveSame ps qs → parts_capacity ps ≡ parts_capacity qs
same-capacity ps qs h = (same-all ps qs h).1

-- parts each of which has the same capacity as before are parts as before
parts-same : (ps qs : List Part) → HaveSame ps qs → IsParts ps → IsParts qs
parts-same ps qs h a =
    let (count, capacity, able) = same-all ps qs h in
    record {
      some = omega (arith, count, a.some);
      have_capacity = λ more. able (a.have_capacity (omega (arith, count, more)));
      fits = omega (arith, capacity, a.fits);
    }

-- filling leaves the capacity of each part
pub same-fill : (parts : List Part) (w : List ℕ) → HaveSame parts (parts_fill parts w)
same-fill [] w = tt
same-fill (p ∷ parts) w =
    (omega (arith, length-append p.filled (take p.spare w), length-take p.spare w), same-fill parts (drop p.spare w))

-- bytes that are put into parts leave them parts
pub parts-fill : (parts : List Part) (w : List ℕ) → IsParts parts → IsParts (parts_fill parts w)
parts-fill parts w h = parts-same parts (parts_fill parts w) (same-fill parts w) h

-- another length leaves the capacity of each part
pub same-with_len : (parts : List Part) (n : ℕ) → HaveSame parts (parts_with_len parts n)
same-with_len [] n = tt
same-with_len (p ∷ parts) n =
    let m = min n (part_capacity p) in
    let r : length (replicate {A = ℕ} (m - length p.filled) 0) ≡ m - length p.filled = length-replicate (m - length p.filled) 0 in (
      omega (arith, length-take m p.filled, length-append (take m p.filled) (replicate (m - length p.filled) 0)),
      same-with_len parts (n - part_capacity p),
    )

-- so many bytes filled leave them parts
pub parts-with_len : (parts : List Part) (n : ℕ) → IsParts parts → IsParts (parts_with_len parts n)
parts-with_len parts n h = parts-same parts (parts_with_len parts n) (same-with_len parts n) h

-- bytes written over those that are filled leave the capacity of each part
pub same-overwritten : (parts : List Part) (w : List ℕ) → HaveSame parts (parts_overwritten parts w)
same-overwritten [] w = tt
same-overwritten (p ∷ parts) w =
    let u = take (length p.filled) w in
    let a = length-append u (drop (length u) p.filled) in
    let d = length-drop (length u) p.filled in
    let t = length-take (length p.filled) (u ++ drop (length u) p.filled) in
    let v = length-take (length p.filled) w in
    (omega arith, same-overwritten parts (drop (length p.filled) w))

-- bytes written over those of parts leave them parts
pub parts-overwritten : (parts : List Part) (w : List ℕ) → IsParts parts → IsParts (parts_overwritten parts w)
parts-overwritten parts w h = parts-same parts (parts_overwritten parts w) (same-overwritten parts w) h
