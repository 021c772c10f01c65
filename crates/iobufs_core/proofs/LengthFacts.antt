-- Varints at the front of bytes, for laws about formats: whether there is one is decided, none comes
-- with more bytes after it, and a prefix of what is written may go on.
--     has_length, opened, less         there is a varint or none; it may go on or can't; one number is less or not
--     no_length_later, still_closed    there can be no length with more bytes after it either
--     begun_open                       each proper prefix of what is written may go on
use Rattle.std.specs.Prelude.{◌≡◌, ◌⊎◌, ℕ, zero, suc, ◌+◌, ◌-◌, ◌*◌, ◌^◌, ◌<◌, ◌≤◌, Bool, true, false, nat_lt, Ok, Err, List, [], ◌∷◌, ◌++◌, length, take, drop, refl}
use Rattle.std.proofs.Common.{arith, inl, inr, ap, sym, subst, ◌∙◌, length-append, length-drop, take-append-drop}
use Rattle.std.proofs.Math.Seq.{take-append-add}
use Rattle.std.proofs.lemmas.Bool.{ltb-true, ltb-false}
use Rattle.std.proofs.lemmas.List.{take-append-le, take_all}
use Rattle.iobufs_core.specs.Ranges.{in_range}
use Rattle.iobufs_core.specs.Spelled.{length-spell, none_high, one_form, read_off, spelled, spelled_front}
use Rattle.iobufs_core.specs.Spelling.{spell, AreHigh, HasNoLength, IsOpen, IsSpelledAt, IsSpelling}
use Rattle.iobufs_core.specs.Wire.{IsLengthRead, bytes_written}
use Rattle.iobufs_core.specs.declared.codec.base.Error.TheVariants.{EndOfBuffer}
use Rattle.iobufs_core.specs.declared.codec.base.RangeCfg.{RangeCfg}

-- ---- a length is read, or a fault is

lesser : (m n : ℕ) (t : Bool) → nat_lt m n ≡ t → (m < n) ⊎ (n ≤ m)
lesser m n true e = inl (ltb-true m n e)
lesser m n false e = inr (ltb-false m n e)

-- one number is less, or the other is at most as large
pub less : (m n : ℕ) → (m < n) ⊎ (n ≤ m)
less m n = lesser m n (nat_lt m n) refl

spells : (xs : List ℕ) → ((n : ℕ) × IsSpelling xs n) ⊎ ((n : ℕ) → IsSpelling xs n → ⊥)
spells [] = inr (λ n is. is)
spells (b ∷ []) = elim (less b 128) [ inl low ↦ inl (b, (low, refl)) | inr high ↦ inr (λ n is. let low = is.0 in omega (arith, low, high)) ]
spells (b ∷ c ∷ bs) = elim (less b 128) [
  | inl low ↦ inr (λ n is. let top = is.top in omega (arith, low, top))
  | inr top ↦ elim (less b 256) [
    | inr large ↦ inr (λ n is. let byte = is.byte in omega (arith, large, byte))
    | inl byte ↦ elim (spells (c ∷ bs)) [
      | inr none ↦ inr (λ n is. none is.high is.rest)
      | inl (high, rest) ↦ elim (less 0 high) [
        | inl some ↦ inl (
          b + 128 * high - 128,
          record
              { top = top; byte = byte; high = high; some = some; sum = omega (arith, top); rest = rest },
        )
        | inr none ↦ inr (λ n is.
            let same : high ≡ is.high = (one_form (c ∷ bs) (c ∷ bs) [] [] high is.high rest is.rest refl).1 in
            let some = is.some in omega (arith, none, some, same))
      ]
    ]
  ]
]

-- no length is spelled by fewer than k bytes
NoneBelow : List ℕ → ℕ → Type 0
NoneBelow text k = (n j : ℕ) → j < k → n < 2 ^ 64 → IsSpelling (take j text) n → ⊥

one_more : (text : List ℕ) (k : ℕ) → NoneBelow text k → ((n : ℕ) → n < 2 ^ 64 → IsSpelling (take k text) n → ⊥) → NoneBelow text (suc k)
unfolding NoneBelow
one_more text k none here n j below small is = elim (less j k) [
  | inl before ↦ none n j before small is
  | inr after ↦ let same : j ≡ k = omega (arith, below, after) in here n small (subst (λ i. IsSpelling (take i text) n) same is)
]

-- by k bytes, where none is spelled by fewer
by_bytes : (text : List ℕ) (k : ℕ) → NoneBelow text k → ((n : ℕ) × IsSpelledAt text n) ⊎ NoneBelow text (suc k)
unfolding NoneBelow
by_bytes text k none = elim (less (length text) k) [
  | inl beyond ↦ inr (one_more text k none (λ n small is.
      let all : take k text ≡ take (length text) text = take_all k text (omega (arith, beyond))
      ∙ sym (take_all (length text) text (omega arith)) in
      none n (length text) beyond small (subst (λ (w : List ℕ). IsSpelling w n) all is)))
  | inr within ↦ elim (spells (take k text)) [
    | inr nothing ↦ inr (one_more text k none (λ n small is. nothing n is))
    | inl (n, is) ↦ elim (less n (2 ^ 64)) [
      | inl small ↦ inl (n, (read_off text k n within small is).0)
      | inr large ↦ inr (one_more text k none (λ m small other.
          let same : n ≡ m = (one_form (take k text) (take k text) [] [] n m is other refl).1 in omega (arith, large, small, same)))
    ]
  ]
]

within : (text : List ℕ) (k : ℕ) → ((n : ℕ) × IsSpelledAt text n) ⊎ NoneBelow text k
unfolding NoneBelow
within text zero = inr (λ n j below small is. omega (arith, below))
within text (suc k) = elim (within text k) [ inl found ↦ inl found | inr none ↦ by_bytes text k none ]

-- bytes begin with a length, or with none
pub has_length : (text : List ℕ) → ((n : ℕ) × IsSpelledAt text n) ⊎ HasNoLength text
unfolding NoneBelow
has_length text = elim (within text 11) [
  | inl found ↦ inl found
  | inr none ↦ inr (λ n at. none n (length (spell n)) (omega (arith, length-spell n)) at.0 (spelled_front text n at))
]

all_high : (xs : List ℕ) → AreHigh xs ⊎ (AreHigh xs → ⊥)
all_high [] = inl tt
all_high (b ∷ bs) = elim (less b 128) [
  | inl low ↦ inr (λ high. let top = high.0 in omega (arith, low, top))
  | inr top ↦ elim (all_high bs) [ inl high ↦ inl (top, high) | inr none ↦ inr (λ high. none high.1) ]
]

-- more bytes may end a length, or none can
pub opened : (xs : List ℕ) → IsOpen xs ⊎ (IsOpen xs → ⊥)
opened xs = elim (less (length xs) 10) [
  | inr long ↦ inr (λ is. let few = is.0 in omega (arith, few, long))
  | inl few ↦ elim (all_high xs) [ inl high ↦ inl (few, high) | inr none ↦ inr (λ is. none is.1) ]
]

-- ---- a text that grows

-- the bytes before a varint's last byte have the top bit set
before_last : (front : List ℕ) (c : ℕ) (behind : List ℕ) (n : ℕ) → IsSpelling (front ++ c ∷ behind) n → AreHigh front
before_last [] c behind n is = tt
before_last (b ∷ []) c behind n is = (is.top, tt)
before_last (b ∷ d ∷ front) c behind n is = (is.top, before_last (d ∷ front) c behind is.high is.rest)

before_end : (front behind : List ℕ) (n : ℕ) → 0 < length behind → IsSpelling (front ++ behind) n → AreHigh front
before_end front [] n some is = absurd (omega arith)
before_end front (c ∷ behind) n some is = before_last front c behind n is

take_beyond : (k : ℕ) (xs ys : List ℕ) → length xs < k → take k (xs ++ ys) ≡ xs ++ take (k - length xs) ys
take_beyond k xs ys beyond =
    let sum : k ≡ length xs + (k - length xs) = omega arith in
    ap (λ m. take m (xs ++ ys)) sum ∙ take-append-add xs ys (k - length xs)

high_front : (xs ys : List ℕ) → AreHigh (xs ++ ys) → AreHigh xs
high_front [] ys high = tt
high_front (b ∷ bs) ys high = (high.0, high_front bs ys high.1)

-- if no varint is at the front and none can have begun, more bytes complete none
pub no_length_later : (bytes more : List ℕ) → HasNoLength bytes → (IsOpen bytes → ⊥) → HasNoLength (bytes ++ more)
no_length_later bytes more none closed n at =
    let k = length (spell n) in
    elim (less (length bytes) k) [
      | inr within ↦ none n (at.0, sym (take-append-le k bytes more within) ∙ at.1)
      | inl beyond ↦
          let is : IsSpelling (take k (bytes ++ more)) n = spelled_front (bytes ++ more) n at in
          let split : take k (bytes ++ more) ≡ bytes ++ take (k - length bytes) more = take_beyond k bytes more beyond in
          let short = length-spell n in
          let long : length (take k (bytes ++ more)) ≡ k = ap (λ (xs : List ℕ). length xs) at.1 in
          let some : 0 < length (take (k - length bytes) more) =
          omega (arith, long, ap (λ (xs : List ℕ). length xs) split, length-append bytes (take (k - length bytes) more)) in
          closed (omega arith, before_end bytes (take (k - length bytes) more) n some (subst (λ (xs : List ℕ). IsSpelling xs n) split is))
    ]

-- if no bytes can end a length, more bytes can't either
pub still_closed : (bytes more : List ℕ) → (IsOpen bytes → ⊥) → IsOpen (bytes ++ more) → ⊥
still_closed bytes more closed opened =
    closed (let less = opened.0 in omega (arith, length-append bytes more), high_front bytes more opened.1)

-- ---- a beginning

begins : (xs ys front back : List ℕ) → xs ++ ys ≡ front ++ back → length front < length xs → xs ≡ front ++ drop (length front) xs
begins xs ys front back e few =
    let same : take (length front) xs ≡ front =
    sym (take-append-le (length front) xs ys (omega arith)) ∙ ap (take (length front)) e
    ∙ take-append-le (length front) front back (omega arith)
    ∙ take_all (length front) front (omega arith) in
    sym (take-append-drop (length front) xs) ∙ ap (λ w. w ++ drop (length front) xs) same

-- no length, where some of its bytes are wanted
begun_length : (n : ℕ) (front : List ℕ) → n < 2 ^ 64 → spell n ≡ front ++ drop (length front) (spell n) → length front < length (spell n)
    → HasNoLength front × IsOpen front
begun_length n front small is few =
    let rest = drop (length front) (spell n) in
    let some : 0 < length rest = omega (arith, length-drop (length front) (spell n)) in
    let high = before_end front rest n some (subst (λ (xs : List ℕ). IsSpelling xs n) is (spelled n small)) in
    (none_high front high, (omega (arith, length-spell n), high))

-- a beginning of what is written may go on: its length may, or bytes are wanting after it
pub begun_open : (range : RangeCfg) (body front back : List ℕ) → length body < 2 ^ 64 → in_range range (length body) ≡ true
    → bytes_written body ≡ front ++ back → 0 < length back
    → IsLengthRead front range (Err EndOfBuffer) ⊎ ((n : ℕ) × IsLengthRead front range (Ok n) × (length front < length (spell n) + n))
begun_open range body front back small inside whole some =
    let n = length body in
    let k = length (spell n) in
    let sum : k + n ≡ length front + length back =
    omega (arith, ap (λ (xs : List ℕ). length xs) whole, length-append (spell n) body, length-append front back) in
    elim (less (length front) k) [
      | inl few ↦ inl (begun_length n front small (begins (spell n) body front back whole few) few)
      | inr enough ↦
          let stands : take k front ≡ spell n =
          sym (take-append-le k front back enough) ∙ ap (take k) (sym whole) ∙ take-append-le k (spell n) body (omega arith)
          ∙ take_all k (spell n) (omega arith) in
          inr (n, ((small, stands), inside), omega (arith, sum, some))
    ]
