-- A width that each probe halves.
use Rattle.iobufs.proofs.Text.Known.{ap, arith, by_lt, cases_order, mul-le, pow-add, pow_below, subst, ℕ, ⊎_elim, ◌*◌, ◌+◌, ◌-◌, ◌<◌, ◌^◌, ◌≡◌, ◌≤◌}

-- one probe more, over at most half of the width
product : (x w v n : ℕ) → v + v ≤ w → x * w < n → (x * 2) * v < n
product x w v n l h =
    let more : x * w ≡ x * (v + v) + x * (w - (v + v)) = grind arith in
    let twice : (x * 2) * v ≡ x * (v + v) = grind arith in
    omega arith

-- where 2 ^ p widths are less than n, so are 2 ^ (p + 1) widths of at most half
pub halved : (p q w v n : ℕ) → q ≡ p + 1 → v + v ≤ w → 2 ^ p * w < n → 2 ^ q * v < n
halved p q w v n e l h = let d = pow-add 2 p 1 in rw (e, d) (product (2 ^ p) w v n l h)

some : (x w n : ℕ) → 0 < w → x * w < n → x * 2 ≤ 2 * n
some x w n l h =
    let more = mul-le x 1 x w (omega arith) l in
    omega arith

-- where 2 ^ p widths above 0 are less than n, 2 ^ (p + 1) is at most twice n
pub one_more : (p q w n : ℕ) → q ≡ p + 1 → 0 < w → 2 ^ p * w < n → 2 ^ q ≤ 2 * n
one_more p q w n e l h = let d = pow-add 2 p 1 in rw (e, d) (some (2 ^ p) w n l h)

-- a width of which at least half is left, but for one
scaled : (x w v n : ℕ) → w ≤ v + v → n < x * w → n < (x * 2) * v
scaled x w v n l h =
    let more = mul-le x w x (v + v) (omega arith) l in
    let twice : (x * 2) * v ≡ x * (v + v) = grind arith in
    omega arith

-- where 2 ^ p widths are more than n, so are 2 ^ (p + 1) widths of at least half
pub no_less : (p q w v n : ℕ) → q ≡ p + 1 → w ≤ v + v → n < 2 ^ p * w → n < 2 ^ q * v
no_less p q w v n e l h = let d = pow-add 2 p 1 in rw (e, d) (scaled (2 ^ p) w v n l h)

-- as many probes as this takes, once nothing is left to halve
pub twice : (p w n : ℕ) → w ≡ 2 → n < 2 ^ p * w → n < 2 ^ (p + 1)
twice p w n e h = let d = pow-add 2 p 1 in rw d (subst (λ k. n < 2 ^ p * k) e h)

-- where 2 ^ p is at most twice a number below 2 ^ 64, p is below 2 ^ 32 - 1
pub few_probes : (p n : ℕ) → 2 ^ p ≤ 2 * n → n < 2 ^ 64 → p < 2 ^ 32 - 1
few_probes p n l m =
    by_lt p 66 (λ h. omega arith) (λ h. let k = pow_below 65 p (omega arith) in absurd (omega arith))

-- so many probes are no more than the number of digits
pub few_digits : (p n d : ℕ) → 2 ^ p ≤ 2 * n → n < 2 ^ d → p ≤ d
few_digits p n d few less =
    let e = pow-add 2 d 1 in
    ⊎_elim
    (λ (h : p ≡ d + 1). let same : 2 ^ p ≡ 2 ^ (d + 1) = ap (λ k. 2 ^ k) h in absurd (omega arith))
    (λ h. ⊎_elim (λ (h : p < d + 1). omega arith) (λ (h : d + 1 < p). let m = pow_below (d + 1) p h in absurd (omega arith)) h)
    (cases_order p (d + 1))
