-- The test of a good place passes exactly where a block may lie.
use Rattle.iobufs_owner.proofs.Base.{All, All-cons, All-head, All-tail, ApartFrom, Block, IsGoodPlace, IsPlace, IsPowerOfTwo, List, align-small, and_parts, ap, arith, eq-eqb, eqb-true, eqb_tells, false, false_from_ne_true, inl, inr, is_good_place, is_place, is_power_below, is_taken, log-below, ltb-true, nat_eq, next_multiple_of, not, not-true, or_cases, or_left, or_parts, or_right, refl, suc, true, zero, ◌≡◌, ℕ, ◌+◌, ◌%◌, ◌^◌, ◌<◌, ◌∷◌, ◌∙◌, [], nat_tests}

power-is : (k align : ℕ) → is_power_below k align ≡ true → IsPowerOfTwo align
unfolding is_power_below
power-is zero align e = absurd (cc)
power-is (suc k) align e = elim (or_cases (nat_eq align (2 ^ k)) (is_power_below k align) e) [
  | inl t ↦ (k, eqb-true align (2 ^ k) t)
  | inr t ↦ power-is k align t
]

power-below : (k align log : ℕ) → log < k → align ≡ 2 ^ log → is_power_below k align ≡ true
unfolding is_power_below
power-below zero align log l is = absurd (omega (arith, l))
power-below (suc k) align log l is = elim (eqb_tells log k) [
  | inl e ↦ or_left (nat_eq align (2 ^ k)) (is_power_below k align) (eq-eqb align (2 ^ k) (is ∙ ap (λ (n : ℕ). 2 ^ n) e.1))
  | inr e ↦ or_right (nat_eq align (2 ^ k)) (is_power_below k align) (power-below k align log (let d = e.1 in omega (arith, l)) is)
]

place-yes : (base size align : ℕ) → IsPlace base size align → is_place base size align ≡ true
place-yes base size align p =
    let end = p.ends in
    let fits : align < 2 ^ 64 = align-small base align p.above (omega (arith, end)) p.aligned in
    let c : is_power_below 64 align ≡ true = power-below 64 align p.power.0 (log-below align p.power.0 fits p.power.1) p.power.1 in
    grind (arith, nat_tests, c, p.some, p.above, p.aligned, p.ends, p.rounded)

place-is : (base size align : ℕ) → is_place base size align ≡ true → IsPlace base size align
place-is base size align e =
    let a = and_parts _ _ e in
    let b = and_parts _ _ a.0 in
    let c = and_parts _ _ b.0 in
    let d = and_parts _ _ c.0 in
    let f = and_parts _ _ d.0 in
    record {
      some = ltb-true 0 size f.0;
      above = ltb-true 0 base f.1;
      power = power-is 64 align d.1;
      aligned = eqb-true (base % align) 0 c.1;
      ends = ltb-true (base + size) (2 ^ 64) b.1;
      rounded = ltb-true (next_multiple_of size align) (2 ^ 63) a.1;
    }

none-taken : (bs : List Block) (base size : ℕ) → All (λ b. ApartFrom b base size) bs → is_taken bs base size ≡ false
none-taken [] base size a = refl
none-taken (b ∷ bs) base size a =
    let one = All-head (λ b. ApartFrom b base size) b bs a in
    grind (arith, nat_tests, one, none-taken bs base size (All-tail (λ b. ApartFrom b base size) b bs a))

all-apart : (bs : List Block) (base size : ℕ) → is_taken bs base size ≡ false → All (λ b. ApartFrom b base size) bs
all-apart [] base size e = λ k d l. absurd (omega (arith, l))
all-apart (b ∷ bs) base size e =
    All-cons (λ b. ApartFrom b base size) b bs (grind (arith, nat_tests, e))
    (all-apart bs base size (or_parts _ (is_taken bs base size) e).1)

-- the test passes at a good place
pub good-yes : (bs : List Block) (base size align : ℕ) → IsGoodPlace bs base size align → is_good_place bs base size align ≡ true
good-yes bs base size align g = rw (place-yes base size align g.place, none-taken bs base size g.apart) refl

-- a good place is where the test passes
pub good-is : (bs : List Block) (base size align : ℕ) → is_good_place bs base size align ≡ true → IsGoodPlace bs base size align
good-is bs base size align e =
    let b = and_parts (is_place base size align) (not (is_taken bs base size)) e in
    record { place = place-is base size align b.0; apart = all-apart bs base size (not-true (is_taken bs base size) b.1) }

-- the test fails elsewhere
pub good-no : (bs : List Block) (base size align : ℕ) → (IsGoodPlace bs base size align → ⊥) → is_good_place bs base size align ≡ false
good-no bs base size align n = false_from_ne_true (is_good_place bs base size align) (λ e. n (good-is bs base size align e))
