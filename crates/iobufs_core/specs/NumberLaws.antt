-- The encodings of numbers: n bytes, and no two numbers alike.
--     form_8, form_16, form_32, form_64,    each width is written in its number of bytes, big-endian
--     form_128
--     be_bytes_16                           a number that is read of sixteen bytes is written as these
use Rattle.std.proofs.Common.{◌≡◌, ℕ, zero, suc, ◌+◌, ◌*◌, ◌/◌, ◌%◌, ◌^◌, ◌<◌, List, [], ◌∷◌, ◌++◌, length, take, drop, refl, ap, sym, subst, ◌∙◌, arith}
use Rattle.std.proofs.Math.Nat.{div-div-eq-div-mul}
use Rattle.std.proofs.lemmas.List.{get_or-take, get_or-drop, length-take-le, length-drop, take-append-drop}
use Rattle.std.proofs.lemmas.Nat.{be_bytes_8, from_be_bytes-to_be_bytes_2, from_be_bytes-to_be_bytes_4, from_be_bytes-to_be_bytes_8}
use Rattle.std.specs.Int.{w16, w32, w64, w128, to_be_bytes, from_be_bytes}
use Rattle.std.specs.Prelude.{get_or}
use Rattle.iobufs_core.specs.ReadLaws.{IsNumberForm}

one_byte : (m n : ℕ) → m ∷ [] ≡ n ∷ [] → m ≡ n
one_byte m n e = cc

pub form_8 : IsNumberForm (λ n. n ∷ []) 1
form_8 = record { long = λ n. refl; one = λ m n p q e. one_byte m n e }

pub form_16 : IsNumberForm (to_be_bytes w16) 2
form_16 = record {
  long = λ n. refl;
  one = λ m n p q e. sym (from_be_bytes-to_be_bytes_2 m p) ∙ ap (from_be_bytes w16) e ∙ from_be_bytes-to_be_bytes_2 n q;
}

pub form_32 : IsNumberForm (to_be_bytes w32) 4
form_32 = record {
  long = λ n. refl;
  one = λ m n p q e. sym (from_be_bytes-to_be_bytes_4 m p) ∙ ap (from_be_bytes w32) e ∙ from_be_bytes-to_be_bytes_4 n q;
}

pub form_64 : IsNumberForm (to_be_bytes w64) 8
form_64 = record {
  long = λ n. refl;
  one = λ m n p q e. sym (from_be_bytes-to_be_bytes_8 m p) ∙ ap (from_be_bytes w64) e ∙ from_be_bytes-to_be_bytes_8 n q;
}

-- a byte of the upper half, p * 2^64 up
upper_byte : (n p : ℕ) → n / (2 ^ 64 * p) % 256 ≡ n / 2 ^ 64 / p % 256
upper_byte n p = ap (λ m. m % 256) (sym (div-div-eq-div-mul n (2 ^ 64) p))

-- sixteen bytes are those of the upper half, and those of the lower
halves : (n : ℕ) → to_be_bytes w128 n ≡ to_be_bytes w64 (n / 2 ^ 64) ++ to_be_bytes w64 (n % 2 ^ 64)
halves n =
    let low_7 : n / 256 ^ 7 % 256 ≡ n % 2 ^ 64 / 256 ^ 7 % 256 = omega arith in
    let low_6 : n / 256 ^ 6 % 256 ≡ n % 2 ^ 64 / 256 ^ 6 % 256 = omega arith in
    let low_5 : n / 256 ^ 5 % 256 ≡ n % 2 ^ 64 / 256 ^ 5 % 256 = omega arith in
    let low_4 : n / 256 ^ 4 % 256 ≡ n % 2 ^ 64 / 256 ^ 4 % 256 = omega arith in
    let low_3 : n / 256 ^ 3 % 256 ≡ n % 2 ^ 64 / 256 ^ 3 % 256 = omega arith in
    let low_2 : n / 256 ^ 2 % 256 ≡ n % 2 ^ 64 / 256 ^ 2 % 256 = omega arith in
    let low_1 : n / 256 ^ 1 % 256 ≡ n % 2 ^ 64 / 256 ^ 1 % 256 = omega arith in
    let low_0 : n % 256 ≡ n % 2 ^ 64 % 256 = omega arith in
    λ i.
    upper_byte n (256 ^ 7) i ∷ upper_byte n (256 ^ 6) i ∷ upper_byte n (256 ^ 5) i ∷ upper_byte n (256 ^ 4) i
    ∷ upper_byte n (256 ^ 3) i ∷ upper_byte n (256 ^ 2) i ∷ upper_byte n (256 ^ 1) i ∷ (n / 2 ^ 64 % 256)
    ∷ low_7 i ∷ low_6 i ∷ low_5 i ∷ low_4 i ∷ low_3 i ∷ low_2 i ∷ low_1 i ∷ low_0 i ∷ []

one_pair : (m n : ℕ) → m < 2 ^ 128 → n < 2 ^ 128 → to_be_bytes w128 m ≡ to_be_bytes w128 n → m ≡ n
one_pair m n p q e =
    let both : to_be_bytes w64 (m / 2 ^ 64) ++ to_be_bytes w64 (m % 2 ^ 64) ≡ to_be_bytes w64 (n / 2 ^ 64) ++ to_be_bytes w64 (n % 2 ^ 64) =
    sym (halves m) ∙ e ∙ halves n in
    let upper : m / 2 ^ 64 ≡ n / 2 ^ 64 = form_64.one (m / 2 ^ 64) (n / 2 ^ 64) (omega arith) (omega arith) (ap (take 8) both) in
    let lower : m % 2 ^ 64 ≡ n % 2 ^ 64 = form_64.one (m % 2 ^ 64) (n % 2 ^ 64) (omega arith) (omega arith) (ap (drop 8) both) in
    omega (arith, upper, lower)

pub form_128 : IsNumberForm (to_be_bytes w128) 16
form_128 = record { long = λ n. refl; one = λ m n p q e. one_pair m n p q e }

-- a number of sixteen bytes is that of the first eight, and that of the other eight after it
of_halves : (bs : List ℕ) → from_be_bytes w128 bs ≡ from_be_bytes w64 (take 8 bs) * 2 ^ 64 + from_be_bytes w64 (drop 8 bs)
of_halves bs =
    omega (
      arith,
      get_or-take 8 bs 0 0 (omega arith),
      get_or-take 8 bs 1 0 (omega arith),
      get_or-take 8 bs 2 0 (omega arith),
      get_or-take 8 bs 3 0 (omega arith),
      get_or-take 8 bs 4 0 (omega arith),
      get_or-take 8 bs 5 0 (omega arith),
      get_or-take 8 bs 6 0 (omega arith),
      get_or-take 8 bs 7 0 (omega arith),
      get_or-drop 8 bs 0 0,
      get_or-drop 8 bs 1 0,
      get_or-drop 8 bs 2 0,
      get_or-drop 8 bs 3 0,
      get_or-drop 8 bs 4 0,
      get_or-drop 8 bs 5 0,
      get_or-drop 8 bs 6 0,
      get_or-drop 8 bs 7 0,
    )

-- bytes below 256 stay so
small_take : (n : ℕ) (bs : List ℕ) → ((i : ℕ) → get_or bs i 0 < 256) → (i : ℕ) → get_or (take n bs) i 0 < 256
small_take zero bs small i = omega arith
small_take (suc n) [] small i = omega arith
small_take (suc n) (b ∷ bs) small zero = small 0
small_take (suc n) (b ∷ bs) small (suc i) = small_take n bs (λ j. small (suc j)) i

small_drop : (n : ℕ) (bs : List ℕ) → ((i : ℕ) → get_or bs i 0 < 256) → (i : ℕ) → get_or (drop n bs) i 0 < 256
small_drop n bs small i = subst (λ b. b < 256) (sym (get_or-drop n bs i 0)) (small (n + i))

fits_64 : (bs : List ℕ) → ((i : ℕ) → get_or bs i 0 < 256) → from_be_bytes w64 bs < 2 ^ 64
fits_64 bs small = omega (arith, small 0, small 1, small 2, small 3, small 4, small 5, small 6, small 7)

split_64 : (n upper lower : ℕ) → n ≡ upper * 2 ^ 64 + lower → lower < 2 ^ 64 → (n / 2 ^ 64 ≡ upper) × (n % 2 ^ 64 ≡ lower)
split_64 n upper lower e below = (omega arith, omega arith)

-- the number that is read of sixteen bytes is written as these
pub be_bytes_16 : (bs : List ℕ) (n : ℕ) → length bs ≡ 16 → ((i : ℕ) → get_or bs i 0 < 256) → n ≡ from_be_bytes w128 bs
    → to_be_bytes w128 n ≡ bs
be_bytes_16 bs n l small is =
    let upper = from_be_bytes w64 (take 8 bs) in
    let lower = from_be_bytes w64 (drop 8 bs) in
    let first : to_be_bytes w64 upper ≡ take 8 bs =
    be_bytes_8 (take 8 bs) upper (length-take-le 8 bs (omega (arith, l))) (small_take 8 bs small) refl in
    let other : to_be_bytes w64 lower ≡ drop 8 bs =
    be_bytes_8 (drop 8 bs) lower (omega (arith, l, length-drop 8 bs)) (small_drop 8 bs small) refl in
    let (above, below) = split_64 n upper lower (is ∙ of_halves bs) (fits_64 (drop 8 bs) (small_drop 8 bs small)) in
    halves n ∙ ap (λ m. to_be_bytes w64 m ++ to_be_bytes w64 (n % 2 ^ 64)) above
    ∙ ap (λ m. to_be_bytes w64 upper ++ to_be_bytes w64 m) below
    ∙ ap (λ xs. xs ++ to_be_bytes w64 lower) first ∙ ap (λ xs. take 8 bs ++ xs) other ∙ take-append-drop 8 bs
