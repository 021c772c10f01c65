-- Varints: one form for each number, and none is a prefix of another.
--     grow, spelled, spell-more, spell-last          the varint of each number, byte after byte
--     one_form, same_form, spell_begins,             one varint for each number, none of which is a prefix of
--     spelled_as_one                                 another's
--     length-spell, read_off, spelled_front,         at most ten bytes; a varint read from the front, and the
--     spelled_before                                 converse
--     none_high, none_long, none_zero, none_large    bytes that are no varint: all high, ten of them, a 0 at the end,
--                                                    a number too large
--     AreHigh-take, AreHigh-append                   bytes with the top bit set, cut and joined
use Rattle.std.proofs.Common.{◌≡◌, ℕ, zero, suc, ◌+◌, ◌*◌, ◌/◌, ◌%◌, ◌^◌, ◌<◌, ◌≤◌, Bool, true, false, if◌then◌else◌, List, [], ◌∷◌, ◌++◌, length, take, drop, arith, ap, sym, refl, subst, ◌∙◌, length-take-le, take-append-drop}
use Rattle.std.specs.Prelude.{nat_lt}
use Rattle.std.proofs.Math.Nat.{pow-suc}
use Rattle.std.proofs.lemmas.List.{take-take}
use Rattle.std.proofs.Math.Seq.{take-append_seam}
use Rattle.std.proofs.lemmas.Bool.{ltb-true, ltb-false}
use Rattle.iobufs_core.specs.Spelling.{spell_within, spell, IsSpelledAt, IsSpelling, AreHigh, HasNoLength}

-- ---- each number has a varint

-- a byte with the top bit before a varint
pub grow : (b high n : ℕ) (xs : List ℕ) → 128 ≤ b → b < 256 → 0 < high → n + 128 ≡ b + 128 * high → IsSpelling xs high
    → IsSpelling (b ∷ xs) n
grow b high n [] top byte some sum is = elim is [ ]
grow b high n (c ∷ bs) top byte some sum is = record { top = top; byte = byte; high = high; some = some; sum = sum; rest = is }

step : (t : Bool) (n : ℕ) (xs : List ℕ) → nat_lt n 128 ≡ t → (128 ≤ n → IsSpelling xs (n / 128))
    → IsSpelling (if t then n ∷ [] else (128 + n % 128) ∷ xs) n
step true n xs e next = (ltb-true n 128 e, refl)
step false n xs e next =
    let big : 128 ≤ n = ltb-false n 128 e in
    grow (128 + n % 128) (n / 128) n xs (omega arith) (omega arith) (omega arith) (omega arith) (next big)

-- a number of n digits of seven bits has a varint of at most n bytes
spelled_within : (more n : ℕ) → n < 128 * 128 ^ more → IsSpelling (spell_within more n) n
spelled_within zero n h = (h, refl)
spelled_within (suc more) n h =
    step (nat_lt n 128) n (spell_within more (n / 128)) refl
    (λ big. spelled_within more (n / 128) (let p = pow-suc 128 more in omega arith))

pub spelled : (n : ℕ) → n < 2 ^ 64 → IsSpelling (spell n) n
unfolding spell
spelled n h = spelled_within 9 n (omega arith)

-- ---- and only one

-- two spellings of which one begins the other are the same, of the same number
pub one_form : (a b x y : List ℕ) (m n : ℕ) → IsSpelling a m → IsSpelling b n → a ++ x ≡ b ++ y → (a ≡ b) × (m ≡ n)
one_form [] b x y m n p q e = elim p [ ]
one_form a [] x y m n p q e = elim q [ ]
one_form (b ∷ []) (c ∷ []) x y m n p q e =
    let h : b ≡ c = cc in
    (ap (λ z. z ∷ []) h, p.1 ∙ h ∙ sym q.1)
one_form (b ∷ []) (c ∷ d ∷ ds) x y m n p q e =
    let h : b ≡ c = cc in
    let low = p.0 in let high = q.top in absurd (omega arith)
one_form (b ∷ c ∷ bs) (d ∷ []) x y m n p q e =
    let h : b ≡ d = cc in
    let low = q.0 in let high = p.top in absurd (omega arith)
one_form (b ∷ c ∷ bs) (d ∷ f ∷ ds) x y m n p q e =
    let h : b ≡ d = cc in
    let t : (c ∷ bs) ++ x ≡ (f ∷ ds) ++ y = cc in
    let rest = one_form (c ∷ bs) (f ∷ ds) x y p.high q.high p.rest q.rest t in
    (cc (rest.0, h), omega (arith, h, rest.1, p.sum, q.sum))

-- a number has one varint
pub same_form : (a b : List ℕ) (n : ℕ) → IsSpelling a n → IsSpelling b n → a ≡ b
same_form [] b n p q = elim p [ ]
same_form a [] n p q = elim q [ ]
same_form (b ∷ []) (c ∷ []) n p q = ap (λ z. z ∷ []) (sym p.1 ∙ q.1)
same_form (b ∷ []) (c ∷ d ∷ ds) n p q =
    absurd (omega (arith, p.0, p.1, q.top, q.some, q.sum))
same_form (b ∷ c ∷ bs) (d ∷ []) n p q =
    absurd (omega (arith, q.0, q.1, p.top, p.some, p.sum))
same_form (b ∷ c ∷ bs) (d ∷ f ∷ ds) n p q =
    let high : q.high ≡ p.high = omega (arith, p.top, p.byte, p.sum, q.top, q.byte, q.sum) in
    let first : b ≡ d = omega (arith, high, p.sum, q.sum) in
    let rest : IsSpelling (f ∷ ds) p.high = subst (IsSpelling (f ∷ ds)) high q.rest in
    cc (first, same_form (c ∷ bs) (f ∷ ds) p.high p.rest rest)

-- ---- what is read is a varint

short : (t : Bool) (more n : ℕ) → length (spell_within more (n / 128)) ≤ more + 1
    → length (if t then n ∷ [] else (128 + n % 128) ∷ spell_within more (n / 128)) ≤ suc more + 1
short true more n h = omega arith
short false more n h = omega arith

length-spell_within : (more n : ℕ) → length (spell_within more n) ≤ more + 1
length-spell_within zero n = omega arith
length-spell_within (suc more) n =
    let ih = length-spell_within more (n / 128) in
    short (nat_lt n 128) more n ih

-- a varint has at most ten bytes
pub length-spell : (n : ℕ) → length (spell n) ≤ 10
unfolding spell
length-spell n = length-spell_within 9 n

-- bytes whose first k are a varint of n begin with the varint of n
pub read_off : (text : List ℕ) (k n : ℕ) → k ≤ length text → n < 2 ^ 64 → IsSpelling (take k text) n
    → IsSpelledAt text n × (k ≡ length (spell n))
read_off text k n within small is =
    let same = same_form (spell n) (take k text) n (spelled n small) is in
    let len : length (spell n) ≡ k = ap length same ∙ length-take-le k text within in
    ((small, ap (λ m. take m text) len ∙ sym same), sym len)

-- bytes that begin with a varint have it as a prefix
pub spelled_front : (text : List ℕ) (n : ℕ) → IsSpelledAt text n → IsSpelling (take (length (spell n)) text) n
spelled_front text n at = subst (λ xs. IsSpelling xs n) (sym at.1) (spelled n at.0)

-- ---- bytes that spell no length

-- first bytes with the top bit set are no varint
no_end : (xs : List ℕ) (n : ℕ) → AreHigh xs → IsSpelling xs n → ⊥
no_end [] n high is = is
no_end (b ∷ []) n high is = let low = is.0 in let up = high.0 in absurd (omega arith)
no_end (b ∷ c ∷ bs) n high is = no_end (c ∷ bs) is.high high.1 is.rest

pub AreHigh-take : (k : ℕ) (xs : List ℕ) → AreHigh xs → AreHigh (take k xs)
AreHigh-take zero xs high = tt
AreHigh-take (suc k) [] high = tt
AreHigh-take (suc k) (b ∷ bs) high = (high.0, AreHigh-take k bs high.1)

pub AreHigh-append : (xs ys : List ℕ) → AreHigh xs → AreHigh ys → AreHigh (xs ++ ys)
AreHigh-append [] ys p q = q
AreHigh-append (b ∷ bs) ys p q = (p.0, AreHigh-append bs ys p.1 q)

-- a 0 after bytes with the top bit set ends no varint
zero_end : (k : ℕ) (h : ℕ) (hs more : List ℕ) (n : ℕ) → AreHigh (h ∷ hs) → IsSpelling (take k ((h ∷ hs) ++ 0 ∷ more)) n → ⊥
zero_end zero h hs more n high is = is
zero_end (suc zero) h hs more n high is = let low = is.0 in let up = high.0 in absurd (omega arith)
zero_end (suc (suc zero)) h [] more n high is = let (low, none) = is.rest in absurd (omega (arith, is.some, none))
zero_end (suc (suc (suc k))) h [] [] n high is = let (low, none) = is.rest in absurd (omega (arith, is.some, none))
zero_end (suc (suc (suc k))) h [] (m ∷ ms) n high is = let more = is.rest in absurd (omega (arith, more.top))
zero_end (suc (suc k)) h (g ∷ gs) more n high is = zero_end (suc k) g gs more is.high high.1 is.rest

-- bytes with the top bit set spell no length, though more may follow after the tenth
pub none_high : (text : List ℕ) → AreHigh text → HasNoLength text
none_high text high n at = no_end (take (length (spell n)) text) n (AreHigh-take (length (spell n)) text high) (spelled_front text n at)

pub none_long : (text : List ℕ) → AreHigh (take 10 text) → HasNoLength text
none_long text high n at =
    let short = length-spell n in
    let front : take (length (spell n)) (take 10 text) ≡ take (length (spell n)) text = take-take (length (spell n)) 10 text short in
    no_end (take (length (spell n)) text) n (subst AreHigh front (AreHigh-take (length (spell n)) (take 10 text) high))
    (spelled_front text n at)

-- nor do such bytes and a 0
pub none_zero : (hs more : List ℕ) → 0 < length hs → AreHigh hs → HasNoLength (hs ++ 0 ∷ more)
none_zero [] more some high n at = absurd (omega arith)
none_zero (h ∷ hs) more some high n at = zero_end (length (spell n)) h hs more n high (spelled_front ((h ∷ hs) ++ 0 ∷ more) n at)

-- bytes of a number that is too large are no varint
pub none_large : (text : List ℕ) (k m : ℕ) → IsSpelling (take k text) m → 2 ^ 64 ≤ m → HasNoLength text
none_large text k m is large n at =
    let whole = take-append-drop k text in
    let whole' = take-append-drop (length (spell n)) text in
    let same = (one_form (take k text) (take (length (spell n)) text) (drop k text) (drop (length (spell n)) text) m n is
    (spelled_front text n at)
    (whole ∙ sym whole')).1 in
    let small = at.0 in
    absurd (omega arith)

-- ---- one byte after the other

pub spell-more : (n : ℕ) → 128 ≤ n → n < 2 ^ 64 → spell n ≡ (128 + n % 128) ∷ spell (n / 128)
spell-more n big small =
    let less : n / 128 < 2 ^ 64 = omega arith in
    same_form (spell n) ((128 + n % 128) ∷ spell (n / 128)) n (spelled n small)
    (grow (128 + n % 128) (n / 128) n (spell (n / 128)) (omega arith) (omega arith) (omega arith) (omega arith) (spelled (n / 128) less))

pub spell-last : (n : ℕ) → n < 128 → spell n ≡ n ∷ []
spell-last n small = same_form (spell n) (n ∷ []) n (spelled n (omega arith)) (small, refl)

-- the varint of a number is no prefix of another's
pub spell_begins : (n m : ℕ) (x y : List ℕ) → n < 2 ^ 64 → m < 2 ^ 64 → spell n ++ x ≡ spell m ++ y → n ≡ m
spell_begins n m x y p q e = (one_form (spell n) (spell m) x y n m (spelled n p) (spelled m q) e).1

-- no bytes begin with two varints, and those that begin with one say so
pub spelled_as_one : (text : List ℕ) (m n : ℕ) → IsSpelledAt text m → IsSpelledAt text n → m ≡ n
spelled_as_one text m n p q =
    let k = length (spell m) in
    let l = length (spell n) in
    let whole : take k text ++ drop k text ≡ text = take-append-drop k text in
    let whole' : take l text ++ drop l text ≡ text = take-append-drop l text in
    (one_form (take k text) (take l text) (drop k text) (drop l text) m n (spelled_front text m p) (spelled_front text n q)
    (whole ∙ sym whole')).1

pub spelled_before : (n : ℕ) (rest : List ℕ) → n < 2 ^ 64 → IsSpelledAt (spell n ++ rest) n
spelled_before n rest small = (small, take-append_seam (spell n) rest)
