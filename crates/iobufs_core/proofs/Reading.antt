-- Reading a spelled length, byte by byte.
use Rattle.std.proofs.Common.{◌≡◌, ◌≢◌, ℕ, zero, suc, ◌+◌, ◌-◌, ◌*◌, ◌^◌, ◌<◌, ◌≤◌, ◌⊎◌, inl, inr, List, [], ◌∷◌, ◌++◌, length, take, drop, arith, ap, sym, refl, subst, ◌∙◌, length-take-le, take-append-drop, None, Some, append_assoc, take_all, add-one}
use Rattle.std.specs.Prelude.{slice_get}
use Rattle.std.proofs.lemmas.List.{take_more}
use Rattle.std.proofs.lemmas.Bool.{cases_lt}
use Rattle.std.proofs.lemmas.Bool.Decides.{eqb_tells}
use Rattle.std.proofs.lemmas.Option.{slice_get_within, get_or_from_slice_get}
use Rattle.std.proofs.Math.Nat.{pow-suc, pow-le-pow_right, mul-le-mul_left}
use Rattle.iobufs_core.specs.Spelling.{spell, IsSpelledAt, IsSpelling, AreHigh, HasNoLength, IsOpen}
use Rattle.iobufs_core.specs.Spelled.{grow, read_off, AreHigh-append, none_high, none_long, none_zero, none_large}

-- i bytes were read: they have the top bit set, and whatever spells the rest completes the number
pub record IsSoFar (text : List ℕ) (i value place : ℕ) : Type 0 where
  pub inside : i ≤ length text
  pub high : AreHigh (take i text)
  pub place_is : place ≡ 128 ^ i
  pub below : value < place
  pub completes : (tail : List ℕ) (rest : ℕ) → IsSpelling tail rest → (i ≡ 0) ⊎ (0 < rest)
      → IsSpelling (take i text ++ tail) (value + place * rest)

-- the byte after those that were read
pub next_byte : (text : List ℕ) (i b : ℕ) → slice_get text i ≡ Some b → take (i + 1) text ≡ take i text ++ b ∷ []
next_byte text i b e = take_more text i b (slice_get_within text i b e)
    ∙ ap (λ x. take i text ++ x ∷ []) (get_or_from_slice_get text i b b e)

place_below : (i place : ℕ) → i ≤ 8 → place ≡ 128 ^ i → place ≤ 128 ^ 8
place_below i place h e = let le = pow-le-pow_right {n = 128} (omega arith) h in omega arith

pow_more : (i : ℕ) → 128 ^ (i + 1) ≡ 128 ^ i * 128
pow_more i = ap (λ k. 128 ^ k) (add-one i) ∙ pow-suc 128 i

regroup : (value place low rest : ℕ) → value + place * (low + 128 * rest) ≡ value + place * low + place * 128 * rest
regroup value place low rest = omega arith

-- where a byte with the top bit set is read after others, its low seven bits count above theirs, and one byte more is read
pub more_so_far : (text : List ℕ) (i value place b : ℕ) → IsSoFar text i value place → slice_get text i ≡ Some b → 128 ≤ b → b < 256
    → IsSoFar text (i + 1) (value + place * (b - 128)) (place * 128)
more_so_far text i value place b so e low top =
    let within = slice_get_within text i b e in
    let take_is = next_byte text i b e in
    let low_bits : b - 128 ≤ 127 = omega arith in record {
      inside = omega arith;
      high = subst AreHigh (sym take_is) (AreHigh-append (take i text) (b ∷ []) so.high (low, tt));
      place_is = ap (λ p. p * 128) so.place_is ∙ sym (pow_more i);
      below = (let some = mul-le-mul_left place low_bits in omega (arith, so.below));
      completes = λ tail rest is some.
          let positive : 0 < rest = elim some [ inl z ↦ absurd (omega arith) | inr z ↦ z ] in
          let first = grow b rest (b - 128 + 128 * rest) tail low top positive (omega arith) is in
          let all = so.completes (b ∷ tail) (b - 128 + 128 * rest) first (inr (omega arith)) in
          let list : take i text ++ b ∷ tail ≡ take (i + 1) text ++ tail =
          sym (append_assoc (take i text) (b ∷ []) tail) ∙ ap (λ xs. xs ++ tail) (sym take_is) in
          let number = regroup value place (b - 128) rest in
          subst (λ xs. IsSpelling xs (value + place * (b - 128) + place * 128 * rest)) list
          (subst (IsSpelling (take i text ++ b ∷ tail)) number all);
    }

-- the byte that ends a spelling
pub ends : (text : List ℕ) (i value place b : ℕ) → IsSoFar text i value place → slice_get text i ≡ Some b → b < 128 → (i ≡ 0) ⊎ (0 < b)
    → value + place * b < 2 ^ 64
    → IsSpelledAt text (value + place * b) × (i + 1 ≡ length (spell (value + place * b)))
ends text i value place b so e low some small =
    let take_is = next_byte text i b e in
    let within = slice_get_within text i b e in
    let is = so.completes (b ∷ []) b (low, refl) some in
    read_off text (i + 1) (value + place * b) (omega arith) small (subst (λ xs. IsSpelling xs (value + place * b)) (sym take_is) is)

-- a first byte below 128 is a whole spelling
pub one_byte : (text : List ℕ) (b : ℕ) → slice_get text 0 ≡ Some b → b < 128 → IsSpelledAt text b × (1 ≡ length (spell b))
one_byte text b e low =
    let take_is = next_byte text 0 b e in
    let within = slice_get_within text 0 b e in
    read_off text 1 b (omega arith) (omega arith) (subst (λ xs. IsSpelling xs b) (sym take_is) (low, refl))

-- numbers stay small for nine bytes
pub record IsSmall (value place b : ℕ) : Type 0 where
  pub factor : place ≤ 2 ^ 56
  pub product : place * b < 2 ^ 63
  pub sum : value + place * b < 2 ^ 63

-- where at most eight bytes are read and the next one has seven bits at most, all numbers are small: the place is at most 2^56, product and
-- sum are below 2^63
pub small : (text : List ℕ) (i value place b : ℕ) → IsSoFar text i value place → i ≤ 8 → b ≤ 127 → IsSmall value place b
small text i value place b so h low =
    let few = place_below i place h so.place_is in
    let some = mul-le-mul_left place low in
    let below = so.below in
    record { factor = omega arith; product = omega arith; sum = omega arith }

-- no byte is left, and all that there were have the top bit set
pub still_open : (text : List ℕ) (i value place : ℕ) → IsSoFar text i value place → i ≤ 9 → length text ≤ i → HasNoLength text × IsOpen text
still_open text i value place so few end =
    let all = take_all i text end in
    let high : AreHigh text = subst AreHigh all so.high in
    (none_high text high, (omega arith, high))

-- no byte is there at all
pub nothing_open : (text : List ℕ) → length text ≤ 0 → HasNoLength text × IsOpen text
nothing_open [] end = (none_high [] tt, (omega arith, tt))
nothing_open (x ∷ xs) end = absurd (omega arith)

-- a byte below 128 stands at a place
not_high : (text : List ℕ) (i b : ℕ) → slice_get text i ≡ Some b → b < 128 → AreHigh text → ⊥
not_high [] i b e low high = cc
not_high (x ∷ xs) zero b e low high = let same : x ≡ b = cc in let up = high.0 in absurd (omega arith)
not_high (x ∷ xs) (suc i) b e low high = not_high xs i b e low high.1

-- a 0 after such bytes
pub zero_behind : (text : List ℕ) (i value place : ℕ) → IsSoFar text i value place → 0 < i → slice_get text i ≡ Some 0
    → HasNoLength text × (IsOpen text → ⊥)
zero_behind text i value place so some e =
    let within = slice_get_within text i 0 e in
    let take_is = next_byte text i 0 e in
    let whole : take i text ++ 0 ∷ drop (i + 1) text ≡ text =
    sym (append_assoc (take i text) (0 ∷ []) (drop (i + 1) text)) ∙ ap (λ xs. xs ++ drop (i + 1) text) (sym take_is)
    ∙ take-append-drop (i + 1) text in
    let long : 0 < length (take i text) = omega (arith, length-take-le i text so.inside) in
    let none = none_zero (take i text) (drop (i + 1) text) long so.high in
    (subst (λ (xs : List ℕ). HasNoLength xs) whole none, λ opened. not_high text i 0 e (omega arith) opened.1)

-- a tenth byte that is not 1
tenth : (text : List ℕ) (value place b : ℕ) → IsSoFar text 9 value place → slice_get text 9 ≡ Some b → b ≢ 1
    → HasNoLength text × (IsOpen text → ⊥)
tenth text value place b so e other =
    let within = slice_get_within text 9 b e in
    let take_is : take 10 text ≡ take 9 text ++ b ∷ [] = next_byte text 9 b e in
    let long : IsOpen text → ⊥ = λ opened. let few = opened.0 in absurd (omega arith) in
    elim (cases_lt b 128) [
      | inr high ↦ (none_long text (subst AreHigh (sym take_is) (AreHigh-append (take 9 text) (b ∷ []) so.high (high, tt))), long)
      | inl low ↦ elim (eqb_tells b 0) [
        | inl z ↦ (let zero_is : slice_get text 9 ≡ Some 0 = e ∙ ap Some z.1 in zero_behind text 9 value place so (omega arith) zero_is)
        | inr z ↦
            let positive : 0 < b = (let ne = z.1 in omega arith) in
            let two : 2 ≤ b = omega arith in
            let place_is : place ≡ 2 ^ 63 = so.place_is in
            let twice = mul-le-mul_left place two in
            let is = so.completes (b ∷ []) b (low, refl) (inr positive) in
            (none_large text 10 (value + place * b) (subst (λ xs. IsSpelling xs (value + place * b)) (sym take_is) is) (omega arith), long)
      ]
    ]

-- the tenth byte is 1
pub tenth_one : (text : List ℕ) (i value place : ℕ) → IsSoFar text i value place → i ≡ 9 → slice_get text 9 ≡ Some 1
    → IsSpelledAt text (value + place) × (10 ≡ length (spell (value + place)))
tenth_one text i value place so nine e =
    let so9 : IsSoFar text 9 value place = subst (λ k. IsSoFar text k value place) nine so in
    let place_is : place ≡ 2 ^ 63 = so9.place_is in
    let below = so9.below in
    let once : value + place * 1 ≡ value + place = omega arith in
    let fits : value + place * 1 < 2 ^ 64 = omega arith in
    let found = ends text 9 value place 1 so9 e (omega arith) (inr (omega arith)) fits in
    (subst (IsSpelledAt text) once found.0, (found.1 ∙ ap (λ n. length (spell n)) once))

-- or another one
pub tenth_other : (text : List ℕ) (i value place b : ℕ) → IsSoFar text i value place → i ≡ 9 → slice_get text 9 ≡ Some b → b ≢ 1
    → HasNoLength text
    × (IsOpen text → ⊥)
tenth_other text i value place b so nine e other = tenth text value place b (subst (λ k. IsSoFar text k value place) nine so) e other

-- no byte at a place: the text ends there or before
pub end_from_none : (text : List ℕ) (i : ℕ) → slice_get text i ≡ None → length text ≤ i
end_from_none [] i e = omega arith
end_from_none (x ∷ xs) zero e = cc
end_from_none (x ∷ xs) (suc i) e = let ih = end_from_none xs i e in omega arith
