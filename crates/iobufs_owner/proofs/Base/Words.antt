-- Descriptor words as the code makes and reads them, by shifts and masks; and whether fields have room in one.
use Rattle.iobufs_owner.proofs.Base.Known.{Bool, true, false, Option, Some, None, SomeIff, ◌≡◌, ℕ, ◌+◌, ◌-◌, ◌*◌, ◌/◌, ◌%◌, ◌^◌, ◌<◌, ◌≤◌, ◌↔◌, sym, ◌∙◌, ap, refl, arith, bit_or, bit_and, pow-add, pow_pos, or_shifted, shr_high, mod_low, and_mask, shl_whole, one_shl, shr_split, mod_below, mul-add-lt, shr-shr, bit_at-trailing_zeros, bit_at-pow_other, div-eq_of_lt, trailing_zeros, Width, bits, w64, fits, word_of, HasRoom, IsWord, size_of_word, tail_of_word, log_of_word, word_with_tail, false_from_ne_true, nat_tests}

-- the trailing zeros of a power of two are its logarithm
pub zeros_pow : (w : Width) (k : ℕ) → 2 ^ k < 2 ^ bits w → trailing_zeros w (2 ^ k) ≡ k
zeros_pow w k small =
    let z = bit_at-trailing_zeros w (2 ^ k) (pow_pos k) small in
    let other = bit_at-pow_other k (trailing_zeros w (2 ^ k)) in
    grind (arith, z.1, other)

-- a number shifted right by k is 0 exactly if it is below 2 ^ k
pub shr_zero : (x k : ℕ) → (x / 2 ^ k ≡ 0) ↔ (x < 2 ^ k)
shr_zero x k = (
  λ h. let s = shr_split x k in let m = mod_below x (2 ^ k) (pow_pos k) in let s2 = rw h at s in omega (arith, s2, m),
  λ h. div-eq_of_lt h,
)

-- the parts of a word, one above the other
pub word-parts : (a t size log tail : ℕ) → word_of a t size log tail ≡ ((size * 2 ^ t + tail) * 2 ^ a + log) * 2 + 1
unfolding word_of
word-parts a t size log tail = rw (pow-add 2 (1 + a) t, pow-add 2 1 a) (omega arith)

-- fields that have room in a format of at most 64 bits, shifted to their places and joined by `or` with the lowest bit, are their word
pub pack-is : (a t s size log tail : ℕ) → 1 + a + t + s ≤ 64 → HasRoom a t s size log tail
    → bit_or (size * 2 ^ (1 + a + t) % 2 ^ 64) (bit_or (tail * 2 ^ (1 + a) % 2 ^ 64)
    (bit_or (log * 2 % 2 ^ 64) 1)) ≡ word_of a t size log tail
unfolding word_of
pack-is a t s size log tail fits room =
    let e1 = shl_whole log a 1 64 room.log_fits (omega arith) in
    let o1 = or_shifted log 1 1 (omega arith) in
    let p1 = pow-add 2 1 a in
    let l1 : log * 2 + 1 < 2 ^ (1 + a) = omega (arith, p1, room.log_fits) in
    let e2 = shl_whole tail t (1 + a) 64 room.tail_fits (omega arith) in
    let o2 = or_shifted tail (1 + a) (log * 2 + 1) l1 in
    let p2 = pow-add 2 (1 + a) t in
    let m2 = mul-add-lt tail (2 ^ (1 + a)) (log * 2 + 1) (2 ^ t) room.tail_fits l1 in
    let l2 : tail * 2 ^ (1 + a) + (log * 2 + 1) < 2 ^ (1 + a + t) = omega (arith, p2, m2) in
    let e3 = shl_whole size s (1 + a + t) 64 room.size_fits (omega arith) in
    let o3 = or_shifted size (1 + a + t) (tail * 2 ^ (1 + a) + (log * 2 + 1)) l2 in
    rw (e1, o1, e2, o2, e3, o3) (omega arith)

-- a word shifted by one bit and masked by the bits of an alignment is the logarithm, where that has room
pub unpack-log : (a t size log tail : ℕ) → log < 2 ^ a → bit_and (word_of a t size log tail / 2) (2 ^ a - 1) ≡ log
unpack-log a t size log tail h =
    rw (word-parts a t size log tail, shr_high ((size * 2 ^ t + tail) * 2 ^ a + log) 1 1 (omega arith), and_mask)
    (mod_low (size * 2 ^ t + tail) a log h)

unpack-high : (a t size log tail : ℕ) → log < 2 ^ a → word_of a t size log tail / 2 ^ (1 + a) ≡ size * 2 ^ t + tail
unpack-high a t size log tail h =
    rw (
      word-parts a t size log tail,
      ← shr-shr (((size * 2 ^ t + tail) * 2 ^ a + log) * 2 + 1) 1 a,
      shr_high ((size * 2 ^ t + tail) * 2 ^ a + log) 1 1 (omega arith),
    ) (shr_high (size * 2 ^ t + tail) a log h)

-- a word shifted after the logarithm and masked by the bits of a tail is the tail, where both have room
pub unpack-tail : (a t size log tail : ℕ) → log < 2 ^ a → tail < 2 ^ t
    → bit_and (word_of a t size log tail / 2 ^ (1 + a)) (2 ^ t - 1) ≡ tail
unpack-tail a t size log tail h k = rw (unpack-high a t size log tail h, and_mask) (mod_low size t tail k)

-- a word shifted after the tail is the size, where logarithm and tail have room
pub unpack-size : (a t size log tail : ℕ) → log < 2 ^ a → tail < 2 ^ t → word_of a t size log tail / 2 ^ (1 + a + t) ≡ size
unpack-size a t size log tail h k =
    rw (← shr-shr (word_of a t size log tail) (1 + a) t, unpack-high a t size log tail h) (shr_high size t tail k)

-- an alignment 2 ^ log below 2^64 has log trailing zeros
pub zeros-of : (align log : ℕ) → align < 2 ^ 64 → align ≡ 2 ^ log → trailing_zeros w64 align ≡ log
zeros-of align log fits is = rw is (zeros_pow w64 log (rw is at fits))

-- a word holds one logarithm alone
pub log-small : (a t s word size log tail : ℕ) → IsWord a t s word → HasRoom a t s size log tail → word ≡ word_of a t size log tail
    → log < 64
log-small a t s word size log tail w room is =
    let one = unpack-log a t size log tail room.log_fits in
    let two = unpack-log a t w.size w.log w.tail w.room.log_fits in
    let same : log ≡ w.log = (sym one) ∙ ap (λ x. bit_and (x / 2) (2 ^ a - 1)) (sym is ∙ w.is) ∙ two in
    rw same w.small

-- where an alignment 2 ^ log is below 2^64, log is below 64
pub log-below : (align log : ℕ) → align < 2 ^ 64 → align ≡ 2 ^ log → log < 64
log-below align log fits is =
    let z = bit_at-trailing_zeros w64 (2 ^ log) (pow_pos log) (rw is at fits) in
    let e = zeros_pow w64 log (rw is at fits) in
    rw e at z.0

-- 1 shifted by the trailing zeros of a power of two below 2^64 is that power
pub shifted-one : (align log : ℕ) → align < 2 ^ 64 → align ≡ 2 ^ log → 1 * 2 ^ trailing_zeros w64 align % 2 ^ 64 ≡ align
shifted-one align log fits is =
    rw (zeros-of align log fits is, is) (one_shl log 64 (log-below align log fits is))

-- an optional answer to an equivalent question
pub some-iff : (P Q : Type 0) (o : Option ℕ) (v : ℕ) → SomeIff o P v → (P → Q) → (Q → P) → SomeIff o Q v
some-iff P Q None v s f g = λ q. s (g q)
some-iff P Q (Some x) v s f g = (f s.0, s.1)

-- the fields of a word, by division
pub word-size : (a t s word size log tail : ℕ) → HasRoom a t s size log tail → word ≡ word_of a t size log tail
    → size_of_word a t word ≡ size
word-size a t s word size log tail room is = rw is (unpack-size a t size log tail room.log_fits room.tail_fits)

-- the tail by division is the one of which the word was made, where its fields have room
pub word-tail : (a t s word size log tail : ℕ) → HasRoom a t s size log tail → word ≡ word_of a t size log tail
    → tail_of_word a t word ≡ tail
word-tail a t s word size log tail room is = rw (is, unpack-high a t size log tail room.log_fits) (mod_low size t tail room.tail_fits)

-- the logarithm by division is the one of which the word was made, where its fields have room
pub word-log : (a t s word size log tail : ℕ) → HasRoom a t s size log tail → word ≡ word_of a t size log tail → log_of_word a word ≡ log
word-log a t s word size log tail room is = let e = unpack-log a t size log tail room.log_fits in rw (is, ← and_mask) e

-- a word with another tail
pub retailed-is : (a t s word size log tail n : ℕ) → HasRoom a t s size log tail → word ≡ word_of a t size log tail
    → word_with_tail a t word n ≡ word_of a t size log n
retailed-is a t s word size log tail n room is = rw
    (word-size a t s word size log tail room is, word-log a t s word size log tail room is) refl

-- ---- whether the fields have room

-- where the fields have room, the test of it passes
pub fits-true : (a t s size log tail : ℕ) → HasRoom a t s size log tail → fits a t s size log tail ≡ true
fits-true a t s size log tail r = grind (arith, nat_tests, r.some, r.log_fits, r.tail_fits, r.size_fits)

-- where the test passes, the fields have room
pub fits-room : (a t s size log tail : ℕ) → fits a t s size log tail ≡ true → HasRoom a t s size log tail
fits-room a t s size log tail e = record {
  some = grind (arith, nat_tests, e);
  log_fits = grind (arith, nat_tests, e);
  tail_fits = grind (arith, nat_tests, e);
  size_fits = grind (arith, nat_tests, e);
}

pub fits-false : (a t s size log tail : ℕ) → (HasRoom a t s size log tail → ⊥) → fits a t s size log tail ≡ false
fits-false a t s size log tail n = false_from_ne_true (fits a t s size log tail) (λ e. n (fits-room a t s size log tail e))

-- an answer that is true exactly where the fields have room is that of the test
pub fits-iff : (a t s size log tail : ℕ) (v : Bool) → ((v ≡ true) ↔ HasRoom a t s size log tail) → v ≡ fits a t s size log tail
fits-iff a t s size log tail true i = sym (fits-true a t s size log tail (i.0 refl))
fits-iff a t s size log tail false i = sym (fits-false a t s size log tail (λ r. (let e = i.1 r in absurd (cc))))
