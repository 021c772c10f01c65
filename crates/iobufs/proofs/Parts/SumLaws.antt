-- The effect of the calls on several buffers on the sums that are stored with them.
use Rattle.iobufs.proofs.Text.{AreSummed, List, Part, [], ap, arith, cond_both, drop, eqb-true, filled-drained, kept_parts, length, length-append, length-drop, length-replicate, length-take, min, nat_eq, part_capacity, part_drained, part_overwritten, part_with_len, parts_capacity, parts_drained, parts_fill, parts_filled, parts_overwritten, parts_shared_out, parts_spare, parts_with_len, refl, replicate, spare-fill, sum_by-cons, sym, take, ℕ, ◌++◌, ◌+◌, ◌-◌, ◌∙◌, ◌∷◌, ◌≡◌, ◌≤◌}
use Rattle.iobufs.proofs.Parts.PartLaws.{capacity-parts, same-capacity, same-fill, same-overwritten, same-with_len}
use Rattle.iobufs.proofs.Parts.PartRuns.{capacity-kept}

-- the room is what the bytes leave of the capacity
pub spare-summed : (parts : List Part) (len capacity : ℕ) → AreSummed parts len capacity → len + parts_spare parts ≡ capacity
spare-summed parts len capacity sums = omega (arith, capacity-parts parts, sums.len_is, sums.capacity_is)

-- bytes filled in where there is room for them add to the sum of bytes, and leave that of capacities
pub summed-fill : (parts new : List Part) (w : List ℕ) (len capacity : ℕ) → AreSummed parts len capacity → length w ≤ parts_spare parts
    → new ≡ parts_fill parts w → AreSummed new (len + length w) capacity
summed-fill parts new w len capacity sums fits is =
    let same = same-capacity parts (parts_fill parts w) (same-fill parts w) in
    rw is (record {
      len_is = omega (arith, spare-fill parts w fits, capacity-parts parts, capacity-parts (parts_fill parts w), sums.len_is);
      capacity_is = sums.capacity_is ∙ same;
    })

len-part : (p : Part) (n : ℕ) → length (part_with_len p n).filled ≡ n
len-part p n =
    let r : length (replicate {A = ℕ} (n - length p.filled) 0) ≡ n - length p.filled = length-replicate (n - length p.filled) 0 in
    omega (arith, length-append (take n p.filled) (replicate (n - length p.filled) 0), length-take n p.filled)

len-parts : (parts : List Part) (n : ℕ) → n ≤ parts_capacity parts → length (parts_filled (parts_with_len parts n)) ≡ n
len-parts [] n fits = omega arith
len-parts (p ∷ parts) n fits =
    let m = min n (part_capacity p) in
    let all = sum_by-cons part_capacity p parts in
    let rest = len-parts parts (n - part_capacity p) (omega arith) in
    let here = len-part p m in
    omega (arith, length-append (part_with_len p m).filled (parts_filled (parts_with_len parts (n - part_capacity p))))

-- so many bytes filled, within the capacity, are the sum of bytes, and leave that of capacities
pub summed-with_len : (parts new : List Part) (n len capacity : ℕ) → AreSummed parts len capacity → n ≤ parts_capacity parts
    → new ≡ parts_with_len parts n → AreSummed new n capacity
summed-with_len parts new n len capacity sums fits is =
    rw is (record {
      len_is = sym (len-parts parts n fits);
      capacity_is = sums.capacity_is ∙ same-capacity parts (parts_with_len parts n) (same-with_len parts n);
    })

len-overwritten : (parts : List Part) (w : List ℕ) → length (parts_filled (parts_overwritten parts w)) ≡ length (parts_filled parts)
len-overwritten [] w = refl
len-overwritten (p ∷ parts) w =
    let u = take (length p.filled) w in
    let rest = drop (length p.filled) w in
    let a = length-append u (drop (length u) p.filled) in
    let d = length-drop (length u) p.filled in
    let t = length-take (length p.filled) (u ++ drop (length u) p.filled) in
    omega (
      arith,
      len-overwritten parts rest,
      length-append (part_overwritten p u).filled (parts_filled (parts_overwritten parts rest)),
      length-append p.filled (parts_filled parts),
    )

-- bytes written over those that are filled leave both sums
pub summed-overwritten : (parts new : List Part) (w : List ℕ) (len capacity : ℕ) → AreSummed parts len capacity
    → new ≡ parts_overwritten parts w
    → AreSummed new len capacity
summed-overwritten parts new w len capacity sums is =
    rw is (record {
      len_is = sums.len_is ∙ sym (len-overwritten parts w);
      capacity_is = sums.capacity_is ∙ same-capacity parts (parts_overwritten parts w) (same-overwritten parts w);
    })

-- the capacity falls by what goes
capacity-shared : (parts : List Part) (n : ℕ) → parts_capacity (parts_shared_out parts n) + min n
    (length (parts_filled parts)) ≡ parts_capacity parts
capacity-shared [] n = omega arith
capacity-shared (p ∷ parts) n =
    let rest = n - length p.filled in
    omega (
      arith,
      capacity-shared parts rest,
      length-drop n p.filled,
      length-append p.filled (parts_filled parts),
      sum_by-cons part_capacity p parts,
      sum_by-cons part_capacity (part_drained p n) (parts_shared_out parts rest),
    )

capacity-drained : (parts : List Part) (n : ℕ) → parts_capacity (parts_drained parts n) + min n
    (length (parts_filled parts)) ≡ parts_capacity parts
capacity-drained [] n = omega arith
capacity-drained (p ∷ []) n = capacity-shared (p ∷ []) n
capacity-drained (p ∷ q ∷ parts) n =
    let all = p ∷ q ∷ parts in
    cond_both (nat_eq n 0) all (kept_parts (parts_shared_out all n))
    (λ ps. parts_capacity ps + min n (length (parts_filled all)) ≡ parts_capacity all)
    (λ e. omega (arith, eqb-true n 0 e))
    (λ _. omega (arith, capacity-kept (parts_shared_out all n), capacity-shared all n))

-- bytes that are dropped, no more than there are, go from the sum of bytes and from that of capacities
pub summed-drained : (parts new : List Part) (n len capacity : ℕ) → AreSummed parts len capacity → n ≤ length (parts_filled parts)
    → new ≡ parts_drained parts n → AreSummed new (len - n) (capacity - n)
summed-drained parts new n len capacity sums some is =
    rw is (record {
      len_is = omega (arith, sums.len_is, ap (λ (w : List ℕ). length w) (filled-drained parts n), length-drop n (parts_filled parts));
      capacity_is = omega (arith, sums.capacity_is, capacity-drained parts n);
    })
