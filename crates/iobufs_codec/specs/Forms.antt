-- The forms of numbers, lengths, bytes, `bool` and pairs, and what follows from a form.
--     number_form, length_form, bytes_form,    the form of each kind of value
--     array_form, unit_form, bool_form,
--     option_form
--     pair_form                                of two values in order
--     form_as                                  of a value that is written and decoded as its fields
--     found_same, found_or_memory              decoding the same bytes gives the same value, and fails for memory
--                                              alone
--     read_back                                what was written is what is decoded
--     two_bytes, behind_first, behind_byte     the bytes of two values, and what follows the first of them; what
--                                              follows a byte
--     first_of, two_firsts, no_first,          the first byte of bytes is one; equal bytes have an equal first, and
--     heads, tails                             equal rests
--     whole_by                                 an input is the bytes that it begins with, and what follows them
use Rattle.std.proofs.Common.{◌≡◌, ◌⊎◌, inl, inr, ℕ, ◌+◌, ◌^◌, ◌<◌, ◌≤◌, Bool, true, false, Option, Some, None, Ok, Err, List, [], ◌∷◌, ◌++◌, length, take, drop, ap, sym, subst, ◌∙◌, refl, arith, append_assoc, length-append, take-append-drop}
use Rattle.std.proofs.Math.Seq.{take-append-add, drop-append_seam}
use Rattle.std.proofs.lemmas.List.{take_at, append_cancel_left, drop-drop}
use Rattle.iobufs_core.specs.CodecLaws.{bytes_one, bytes_front, length_front, number_one, number_front}
use Rattle.iobufs_core.specs.MarkedText.{MarkedText, taken_view}
use Rattle.iobufs_core.specs.Ranges.{in_range}
use Rattle.iobufs_core.specs.ReadBytes.{bytes-taken_view, length-taken_view}
use Rattle.iobufs_core.specs.ReadLaws.{IsNumberForm, number_back, number_alike, length_back, length_alike, view_back, views_alike}
use Rattle.iobufs_core.specs.Spelled.{spell_begins}
use Rattle.iobufs_core.specs.Spelling.{spell}
use Rattle.iobufs_core.specs.View.{View, static_mark}
use Rattle.iobufs_core.specs.Wire.{IsNumberRead, IsLengthRead, IsViewFault, bytes_written, flag, option_written}
use Rattle.iobufs_core.specs.declared.codec.base.Error.{Error}
use Rattle.iobufs_core.specs.declared.codec.base.Error.TheVariants.{Memory}
use Rattle.iobufs_core.specs.declared.codec.base.RangeCfg.{RangeCfg}
use Rattle.iobufs_codec.specs.declared.fault.Fault.{Fault}
use Rattle.iobufs_codec.specs.declared.fault.Fault.TheVariants.{Codec, InvalidBool, InvalidEnum, Invalid, ExtraData}
use Rattle.iobufs_codec.specs.Form.{IsForm, IsCodecFault, no_memory, behind, IsMadeThere, IsShortThere, IsByteAt, IsBoolFault, IsSameOption, IsOptionAdmitted, IsOptionFound, IsOptionFault, IsPairFault}

-- ---- faults that are errors of the codec

only_memory : (is : Error → Type 0) → ((error : Error) → is error → error ≡ Memory) → (fault : Fault) → IsCodecFault is fault
    → fault ≡ no_memory
only_memory is memory (Codec error) h = ap Codec (memory error h)
only_memory is memory InvalidBool h = absurd h
only_memory is memory (InvalidEnum tag) h = absurd h
only_memory is memory Invalid h = absurd h
only_memory is memory (ExtraData n) h = absurd h

lifted : (a b : Error) → (a ≡ b) ⊎ ((a ≡ Memory) ⊎ (b ≡ Memory)) → (Codec a ≡ Codec b) ⊎ ((Codec a ≡ no_memory) ⊎ (Codec b ≡ no_memory))
lifted a b h = elim h [
  | inl same ↦ inl (ap Codec same)
  | inr memory ↦ elim memory [ inl p ↦ inr (inl (ap Codec p)) | inr q ↦ inr (inr (ap Codec q)) ]
]

one_of : (is other : Error → Type 0) → ((a b : Error) → is a → other b → (a ≡ b) ⊎ ((a ≡ Memory) ⊎ (b ≡ Memory))) → (a b : Fault)
    → IsCodecFault is a → IsCodecFault other b → (a ≡ b) ⊎ ((a ≡ no_memory) ⊎ (b ≡ no_memory))
one_of is other one (Codec a) (Codec b) p q = lifted a b (one a b p q)
one_of is other one (Codec a) InvalidBool p q = absurd q
one_of is other one (Codec a) (InvalidEnum tag) p q = absurd q
one_of is other one (Codec a) Invalid p q = absurd q
one_of is other one (Codec a) (ExtraData n) p q = absurd q
one_of is other one InvalidBool b p q = absurd p
one_of is other one (InvalidEnum tag) b p q = absurd p
one_of is other one Invalid b p q = absurd p
one_of is other one (ExtraData n) b p q = absurd p

-- ---- nothing

pub unit_form : (Cfg : Type 0) → IsForm (Unit {0}) Cfg (λ _. []) (λ x y. x ≡ y) (λ _ _. Unit {0}) (λ _ _ _ _. Unit {0}) (λ _ _ _ _. ⊥)
unit_form Cfg = record {
  same_written = λ _ _ _. refl;
  no_front = λ _ _ _ _ _ _ _ _ _. refl;
  found_written = λ _ _ _ _ _. (tt, refl);
  refuses = λ _ _ _ _ _ _ _ _ never. absurd never;
  one_fault = λ _ _ _ _ _ _ _ never _. absurd never;
}

-- ---- numbers and lengths

pub number_form : (Cfg : Type 0) (written : ℕ → List ℕ) (size : ℕ) → IsNumberForm written size
    → IsForm ℕ Cfg written (λ m n. m ≡ n) (λ _ n. n < 256 ^ size)
    (λ text skip _ n. IsNumberRead written size (drop skip text.bytes) (Ok n))
    (λ text skip _ fault. IsCodecFault (λ error. IsNumberRead written size (drop skip text.bytes) (Err error)) fault)
number_form Cfg written size form = record {
  same_written = λ m n e. ap written e;
  no_front = λ m n _ _ u v p q e. number_one written size form m n u v p q e;
  found_written = λ n _ text skip h. number_front written size form (drop skip text.bytes) n h;
  refuses = λ n _ text skip rest fault p e h.
      only_memory (λ error. IsNumberRead written size (drop skip text.bytes) (Err error))
      (λ error is. number_back written size n (drop skip text.bytes) rest (Err error) form p e is) fault h;
  one_fault = λ s t skip _ a b e p q.
      one_of (λ error. IsNumberRead written size (drop skip s.bytes) (Err error))
      (λ error. IsNumberRead written size (drop skip t.bytes) (Err error))
      (λ x y is other. number_alike written size form (behind s skip) (behind t skip) (Err x) (Err y) (ap (drop skip) e) is other) a b p q;
}

pub length_form : IsForm ℕ RangeCfg spell (λ m n. m ≡ n) (λ range n. (n < 2 ^ 64) × (in_range range n ≡ true))
    (λ text skip range n. IsLengthRead (drop skip text.bytes) range (Ok n))
    (λ text skip range fault. IsCodecFault (λ error. IsLengthRead (drop skip text.bytes) range (Err error)) fault)
length_form = record {
  same_written = λ m n e. ap spell e;
  no_front = λ m n _ _ u v p q e. spell_begins m n u v p.0 q.0 e;
  found_written = λ n range text skip h. length_front (drop skip text.bytes) range n h;
  refuses = λ n range text skip rest fault p e h.
      only_memory (λ error. IsLengthRead (drop skip text.bytes) range (Err error))
      (λ error is. length_back n range (drop skip text.bytes) rest (Err error) p.0 p.1 e is) fault h;
  one_fault = λ s t skip range a b e p q.
      one_of (λ error. IsLengthRead (drop skip s.bytes) range (Err error)) (λ error. IsLengthRead (drop skip t.bytes) range (Err error))
      (λ x y is other. length_alike (behind s skip) (behind t skip) range (Err x) (Err y) (ap (drop skip) e) is other) a b p q;
}

-- ---- bytes after their length

-- the bytes of what was made, and how many they are with their length
pub made_bytes : {Value : Type 0} (bytes_of : Value → List ℕ) (makes : View → Value → Type 0)
    → ((view : View) (made : Value) → makes view made → bytes_of made ≡ view.bytes)
    → (text : MarkedText) (skip : ℕ) (range : RangeCfg) (value : Value)
    → (there : IsMadeThere makes text skip range value)
    → bytes_of value ≡ take there.n (drop (length (spell there.n)) (drop skip text.bytes))
made_bytes bytes_of makes same text skip range value there =
    same (taken_view text (skip + length (spell there.n)) there.n) value there.made
    ∙ bytes-taken_view text (skip + length (spell there.n)) there.n
    ∙ ap (take there.n) (sym (drop-drop (length (spell there.n)) skip text.bytes))

pub made_long : {Value : Type 0} (bytes_of : Value → List ℕ) (makes : View → Value → Type 0)
    → ((view : View) (made : Value) → makes view made → bytes_of made ≡ view.bytes) → (text : MarkedText) (skip n : ℕ) (value : Value)
    → skip + length (spell n) + n ≤ length text.bytes → makes (taken_view text (skip + length (spell n)) n) value
    → length (spell n) + n ≡ length (bytes_written (bytes_of value))
made_long bytes_of makes same text skip n value within made =
    let k = length (spell n) in
    let size : length (bytes_of value) ≡ n =
    ap length (same (taken_view text (skip + k) n) value made) ∙ length-taken_view text (skip + k) n within in
    let first : length (spell (length (bytes_of value))) ≡ k = ap (λ m. length (spell m)) size in
    omega (arith, size, first, length-append (spell (length (bytes_of value))) (bytes_of value))

pub bytes_form : {Value : Type 0} (bytes_of : Value → List ℕ) (makes : View → Value → Type 0)
    → ((view : View) (made : Value) → makes view made → bytes_of made ≡ view.bytes)
    → IsForm Value RangeCfg (λ value. bytes_written (bytes_of value)) (λ x y. bytes_of x ≡ bytes_of y)
    (λ range value. (length (bytes_of value) < 2 ^ 64) × (in_range range (length (bytes_of value)) ≡ true)) (IsMadeThere makes)
    (λ text skip range fault. IsCodecFault (IsViewFault (behind text skip) range) fault)
bytes_form bytes_of makes same = record {
  same_written = λ x y e. ap bytes_written e;
  no_front = λ x y _ _ u v p q e. bytes_one (bytes_of x) (bytes_of y) u v p.0 q.0 e;
  found_written = λ value range text skip h.
      bytes_front (behind text skip) range (bytes_of value)
      (h.n, (h.read, h.within), made_bytes bytes_of makes same text skip range value h);
  refuses = λ value range text skip rest fault p e h.
      only_memory (IsViewFault (behind text skip) range)
      (λ error is. view_back (record { bytes = bytes_of value; mark = static_mark }) range (behind text skip) rest
      (Err error) p.0 p.1 e is) fault h;
  one_fault = λ s t skip range a b e p q.
      one_of (IsViewFault (behind s skip) range) (IsViewFault (behind t skip) range)
      (λ x y is other. views_alike (behind s skip) (behind t skip) range (Err x) (Err y) (ap (drop skip) e) is other) a b p q;
}

-- ---- so many bytes as they are

pub array_form : (Cfg : Type 0) (n : ℕ)
    → IsForm (List ℕ) Cfg (λ bytes. bytes) (λ x y. x ≡ y) (λ _ bytes. length bytes ≡ n)
    (λ text skip _ bytes. (length bytes ≡ n) × (take n (drop skip text.bytes) ≡ bytes))
    (λ text skip _ fault. IsCodecFault (IsShortThere text skip n) fault)
array_form Cfg n = record {
  same_written = λ x y e. e;
  no_front = λ x y _ _ u v p q e. sym (take_at x u n p) ∙ ap (take n) e ∙ take_at y v n q;
  found_written = λ x _ text skip h. (h.0, ap (λ k. take k (drop skip text.bytes)) h.0 ∙ h.1);
  refuses = λ x _ text skip rest fault p e h.
      only_memory (IsShortThere text skip n)
      (λ error is. absurd (omega (arith, is.1, p, ap (λ (xs : List ℕ). length xs) e, length-append x rest))) fault h;
  one_fault = λ s t skip _ a b e p q. one_of (IsShortThere s skip n) (IsShortThere t skip n)
      (λ x y is other. inl (is.0 ∙ sym other.0)) a b p q;
}

-- ---- a `bool`

-- a first byte, and the head of the same bytes, are one
pub first_of : (d : List ℕ) (b c : ℕ) (more : List ℕ) → take 1 d ≡ b ∷ [] → d ≡ c ∷ more → b ≡ c
first_of d b c more p e = let both : b ∷ [] ≡ c ∷ [] = sym p ∙ ap (take 1) e in cc

-- a first byte is one
pub two_firsts : (d : List ℕ) (b c : ℕ) → take 1 d ≡ b ∷ [] → take 1 d ≡ c ∷ [] → b ≡ c
two_firsts d b c p q = let both : b ∷ [] ≡ c ∷ [] = sym p ∙ q in cc

-- where there is a first byte, there are bytes
pub no_first : (d : List ℕ) (b : ℕ) → take 1 d ≡ b ∷ [] → d ≡ [] → ⊥
no_first d b p e = let both : b ∷ [] ≡ [] = sym p ∙ ap (take 1) e in cc

-- lists that are the same have the same first byte
pub heads : (b c : ℕ) (u v : List ℕ) → b ∷ u ≡ c ∷ v → b ≡ c
heads b c u v e = cc

-- equal lists have equal rests after the first byte
pub tails : (b c : ℕ) (u v : List ℕ) → b ∷ u ≡ c ∷ v → u ≡ v
tails b c u v e = cc

flag_small : (truth : Bool) → flag truth ≤ 1
flag_small true = omega arith
flag_small false = omega arith

flag_one : (x y : Bool) → flag x ≡ flag y → x ≡ y
flag_one true true e = refl
flag_one true false e = absurd (omega (arith, e))
flag_one false true e = absurd (omega (arith, e))
flag_one false false e = refl

-- where a byte of at most 1 stands, a `bool` is found
no_bool_fault : (text : MarkedText) (skip byte : ℕ) (fault : Fault) → byte ≤ 1 → IsByteAt text skip byte → IsBoolFault text skip fault → ⊥
no_bool_fault text skip byte fault small at h =
    elim h [
      | inl ended ↦ no_first (drop skip text.bytes) byte at ended.1
      | inr wrong ↦ let (other, there, large) = wrong.1 in absurd
          (omega (arith, small, large, two_firsts (drop skip text.bytes) byte other at there))
    ]

one_bool_fault : (s t : MarkedText) (skip : ℕ) (a b : Fault) → s.bytes ≡ t.bytes → IsBoolFault s skip a → IsBoolFault t skip b → a ≡ b
one_bool_fault s t skip a b e p q =
    let d : drop skip s.bytes ≡ drop skip t.bytes = ap (drop skip) e in
    elim p [
      | inl ended ↦ elim q [
        | inl too ↦ ended.0 ∙ sym too.0
        | inr wrong ↦ let (byte, there, large) = wrong.1 in absurd (no_first (drop skip t.bytes) byte there (sym d ∙ ended.1))
      ]
      | inr wrong ↦ elim q [
        | inl ended ↦ let (byte, there, large) = wrong.1 in absurd (no_first (drop skip s.bytes) byte there (d ∙ ended.1))
        | inr too ↦ wrong.0 ∙ sym too.0
      ]
    ]

pub bool_form : (Cfg : Type 0) → IsForm Bool Cfg (λ truth. flag truth ∷ []) (λ x y. x ≡ y) (λ _ _. Unit {0})
    (λ text skip _ truth. IsByteAt text skip (flag truth)) (λ text skip _ fault. IsBoolFault text skip fault)
bool_form Cfg = record {
  same_written = λ x y e. ap (λ truth. flag truth ∷ []) e;
  no_front = λ x y _ _ u v p q e. flag_one x y (heads (flag x) (flag y) u v e);
  found_written = λ x _ text skip h. (tt, h);
  refuses = λ x _ text skip rest fault p e h. absurd (no_bool_fault text skip (flag x) fault (flag_small x) (ap (take 1) e) h);
  one_fault = λ s t skip _ a b e p q. inl (one_bool_fault s t skip a b e p q);
}

-- ---- two values, in order

-- bytes that begin with two encodings, in order, begin with their concatenation
pub two_bytes : (d u v : List ℕ) → take (length u) d ≡ u → take (length v) (drop (length u) d) ≡ v → take (length (u ++ v)) d ≡ u ++ v
two_bytes d u v p q =
    let whole : u ++ drop (length u) d ≡ d = ap (λ xs. xs ++ drop (length u) d) (sym p) ∙ take-append-drop (length u) d in
    ap (λ n. take n d) (length-append u v) ∙ ap (take (length u + length v)) (sym whole) ∙ take-append-add u (drop (length u) d) (length v)
    ∙ ap (λ xs. u ++ xs) q

-- a text that begins with these bytes is these, and what is after them
pub whole_by : (u d : List ℕ) → take (length u) d ≡ u → d ≡ u ++ drop (length u) d
whole_by u d front = sym (take-append-drop (length u) d) ∙ ap (λ xs. xs ++ drop (length u) d) front

-- where the first value of two is found, the other is after it
pub behind_first : {A C : Type 0} {written : A → List ℕ} {same : A → A → Type 0} {admits : C → A → Type 0}
    {is_found : MarkedText → ℕ → C → A → Type 0}
    {is_fault : MarkedText → ℕ → C → Fault → Type 0} → IsForm A C written same admits is_found is_fault
    → (x y : A) (cfg : C) (text : MarkedText) (skip : ℕ) (more : List ℕ)
    → admits cfg x → drop skip text.bytes ≡ written x ++ more → is_found text skip cfg y
    → drop (skip + length (written y)) text.bytes ≡ more
behind_first {written = written} form x y cfg text skip more ok e found =
    let d = drop skip text.bytes in
    let (ok', front) = form.found_written y cfg text skip found in
    let whole : d ≡ written y ++ drop (length (written y)) d = whole_by (written y) d front in
    let same : written x ≡ written y = form.same_written x y
    (form.no_front x y cfg cfg more (drop (length (written y)) d) ok ok' (sym e ∙ whole)) in
    sym (drop-drop (length (written y)) skip text.bytes) ∙ ap (drop (length (written y))) e
    ∙ ap (λ n. drop n (written x ++ more)) (ap length (sym same)) ∙ drop-append_seam (written x) more

-- a value that is found, and a refusal at the same bytes: memory
pub found_or_memory : {A C : Type 0} {written : A → List ℕ} {same : A → A → Type 0} {admits : C → A → Type 0}
    {is_found : MarkedText → ℕ → C → A → Type 0}
    {is_fault : MarkedText → ℕ → C → Fault → Type 0} → IsForm A C written same admits is_found is_fault
    → (x : A) (cfg : C) (s t : MarkedText) (skip : ℕ) (error : Fault) → s.bytes ≡ t.bytes
    → is_found s skip cfg x → is_fault t skip cfg error → error ≡ no_memory
found_or_memory {written = written} form x cfg s t skip error e found fault =
    let d = drop skip s.bytes in
    let (ok, front) = form.found_written x cfg s skip found in
    let whole : d ≡ written x ++ drop (length (written x)) d = whole_by (written x) d front in
    form.refuses x cfg t skip (drop (length (written x)) d) error ok (ap (drop skip) (sym e) ∙ whole) fault

-- two values that are found at the same bytes are the same
pub found_same : {A C : Type 0} {written : A → List ℕ} {same : A → A → Type 0} {admits : C → A → Type 0}
    {is_found : MarkedText → ℕ → C → A → Type 0}
    {is_fault : MarkedText → ℕ → C → Fault → Type 0} → IsForm A C written same admits is_found is_fault
    → (x y : A) (cfg : C) (s t : MarkedText) (skip : ℕ) → s.bytes ≡ t.bytes
    → is_found s skip cfg x → is_found t skip cfg y → same x y
found_same {written = written} form x y cfg s t skip e p q =
    let d = drop skip s.bytes in
    let f = drop skip t.bytes in
    let (ok, front) = form.found_written x cfg s skip p in
    let (ok', front') = form.found_written y cfg t skip q in
    let whole : d ≡ written x ++ drop (length (written x)) d = whole_by (written x) d front in
    let whole' : f ≡ written y ++ drop (length (written y)) f = whole_by (written y) f front' in
    form.no_front x y cfg cfg (drop (length (written x)) d) (drop (length (written y)) f) ok ok' (sym whole ∙ ap (drop skip) e ∙ whole')

pub pair_form : {A C B D : Type 0}
    {wa : A → List ℕ} {sa : A → A → Type 0} {oka : C → A → Type 0} {fa : MarkedText → ℕ → C → A → Type 0}
    {ea : MarkedText → ℕ → C → Fault → Type 0}
    {wb : B → List ℕ} {sb : B → B → Type 0} {okb : D → B → Type 0} {fb : MarkedText → ℕ → D → B → Type 0}
    {eb : MarkedText → ℕ → D → Fault → Type 0}
    → IsForm A C wa sa oka fa ea → IsForm B D wb sb okb fb eb
    → IsForm (A × B) (C × D) (λ p. wa p.0 ++ wb p.1) (λ p q. sa p.0 q.0 × sb p.1 q.1) (λ cfg p. oka cfg.0 p.0 × okb cfg.1 p.1)
    (λ text skip cfg p. fa text skip cfg.0 p.0 × fb text (skip + length (wa p.0)) cfg.1 p.1)
    (λ text skip cfg e. IsPairFault wa fa ea (λ t k f. eb t k cfg.1 f) text skip cfg.0 e)
pair_form {wa = wa} {wb = wb} {eb = eb} a b = record {
  same_written = λ p q h. ap (λ xs. xs ++ wb p.1) (a.same_written p.0 q.0 h.0) ∙ ap (λ xs. wa q.0 ++ xs) (b.same_written p.1 q.1 h.1);
  no_front = λ p q cfg other u v ok ok' e.
      let whole : wa p.0 ++ (wb p.1 ++ u) ≡ wa q.0 ++ (wb q.1 ++ v) = sym (append_assoc (wa p.0) (wb p.1) u) ∙ e
      ∙ append_assoc (wa q.0) (wb q.1) v in
      let first = a.no_front p.0 q.0 cfg.0 other.0 (wb p.1 ++ u) (wb q.1 ++ v) ok.0 ok'.0 whole in
      let rest = append_cancel_left (wa p.0) (wb p.1 ++ u) (wb q.1 ++ v)
      (whole ∙ ap (λ xs. xs ++ (wb q.1 ++ v)) (sym (a.same_written p.0 q.0 first))) in
      (first, b.no_front p.1 q.1 cfg.1 other.1 u v ok.1 ok'.1 rest);
  found_written = λ p cfg text skip h.
      let (ok, front) = a.found_written p.0 cfg.0 text skip h.0 in
      let (ok', front') = b.found_written p.1 cfg.1 text (skip + length (wa p.0)) h.1 in (
        (ok, ok'),
        two_bytes (drop skip text.bytes) (wa p.0) (wb p.1) front
            (ap (take (length (wb p.1))) (drop-drop (length (wa p.0)) skip text.bytes) ∙ front'),
      );
  refuses = λ p cfg text skip rest error ok e h.
      let whole : drop skip text.bytes ≡ wa p.0 ++ (wb p.1 ++ rest) = e ∙ append_assoc (wa p.0) (wb p.1) rest in
      elim h [
        | inl first ↦ a.refuses p.0 cfg.0 text skip (wb p.1 ++ rest) error ok.0 whole first
        | inr (x, found, second) ↦
            b.refuses p.1 cfg.1 text (skip + length (wa x)) rest error ok.1
            (behind_first a p.0 x cfg.0 text skip (wb p.1 ++ rest) ok.0 whole found) second
      ];
  one_fault = λ s t skip cfg e f same p q.
      elim p [
        | inl first ↦ elim q [
          | inl other ↦ a.one_fault s t skip cfg.0 e f same first other
          | inr (y, found, second) ↦ inr (inl (found_or_memory a y cfg.0 t s skip e (sym same) found first))
        ]
        | inr (x, found, second) ↦ elim q [
          | inl other ↦ inr (inr (found_or_memory a x cfg.0 s t skip f same found other))
          | inr (y, found', second') ↦
              let len : length (wa x) ≡ length (wa y) = ap length
              (a.same_written x y (found_same a x y cfg.0 s t skip same found found')) in
              b.one_fault s t (skip + length (wa x)) cfg.1 e f same second (subst (λ n. eb t (skip + n) cfg.1 f) (sym len) second')
        ]
      ];
}

-- ---- written values are read back

pub read_back : {A C : Type 0} {written : A → List ℕ} {same : A → A → Type 0} {admits : C → A → Type 0}
    {is_found : MarkedText → ℕ → C → A → Type 0}
    {is_fault : MarkedText → ℕ → C → Fault → Type 0} → IsForm A C written same admits is_found is_fault
    → (x y : A) (cfg : C) (text : MarkedText) (skip : ℕ) (rest : List ℕ)
    → admits cfg x → drop skip text.bytes ≡ written x ++ rest → is_found text skip cfg y → same x y
read_back {written = written} form x y cfg text skip rest ok e found =
    let d = drop skip text.bytes in
    let (ok', front) = form.found_written y cfg text skip found in
    let whole : d ≡ written y ++ drop (length (written y)) d = whole_by (written y) d front in
    form.no_front x y cfg cfg rest (drop (length (written y)) d) ok ok' (sym e ∙ whole)

pub form_as : {S A C : Type 0} {w : A → List ℕ} {same : A → A → Type 0} {ok : C → A → Type 0} {found : MarkedText → ℕ → C → A → Type 0}
    {fault : MarkedText → ℕ → C → Fault → Type 0} → (parts : S → A) (written : S → List ℕ)
    → ((s : S) → written s ≡ w (parts s))
    → IsForm A C w same ok found fault
    → IsForm S C written (λ s t. same (parts s) (parts t)) (λ cfg s. ok cfg (parts s)) (λ text skip cfg s. found text skip cfg (parts s))
    fault
form_as {w = w} parts written is form = record {
  same_written = λ x y h. is x ∙ form.same_written (parts x) (parts y) h ∙ sym (is y);
  no_front = λ x y cfg other u v p q e.
      form.no_front (parts x) (parts y) cfg other u v p q
      (ap (λ zs. zs ++ u) (sym (is x)) ∙ e ∙ ap (λ zs. zs ++ v) (is y));
  found_written = λ x cfg text skip h.
      let (ok', front) = form.found_written (parts x) cfg text skip h in
      (ok', subst (λ (zs : List ℕ). take (length zs) (drop skip text.bytes) ≡ zs) (sym (is x)) front);
  refuses = λ x cfg text skip rest e p d h. form.refuses (parts x) cfg text skip rest e p (d ∙ ap (λ zs. zs ++ rest) (is x)) h;
  one_fault = form.one_fault;
}

-- ---- a value that is there or not

-- the bytes after a byte are at the next offset
pub behind_byte : (text : MarkedText) (skip b : ℕ) (more : List ℕ) → drop skip text.bytes ≡ b ∷ more → drop (skip + 1) text.bytes ≡ more
behind_byte text skip b more e = sym (drop-drop 1 skip text.bytes) ∙ ap (drop 1) e

same_option : {A : Type 0} (w : A → List ℕ) (s : A → A → Type 0) → ((x y : A) → s x y → w x ≡ w y) → (x y : Option A) → IsSameOption s x y
    → option_written w x ≡ option_written w y
same_option w s one None None h = refl
same_option w s one None (Some y) h = absurd h
same_option w s one (Some x) None h = absurd h
same_option w s one (Some x) (Some y) h = ap (λ zs. 1 ∷ zs) (one x y h)

option_front : {A C : Type 0} (w : A → List ℕ) (s : A → A → Type 0) (ok : C → A → Type 0)
    → ((x y : A) (cfg other : C) (u v : List ℕ) → ok cfg x → ok other y → w x ++ u ≡ w y ++ v → s x y)
    → (x y : Option A) (cfg other : C) (u v : List ℕ) → IsOptionAdmitted ok cfg x → IsOptionAdmitted ok other y
    → option_written w x ++ u ≡ option_written w y ++ v → IsSameOption s x y
option_front w s ok one None None cfg other u v p q e = tt
option_front w s ok one None (Some y) cfg other u v p q e = let bad : 0 ≡ 1 = heads 0 1 u (w y ++ v) e in absurd (omega (arith, bad))
option_front w s ok one (Some x) None cfg other u v p q e = let bad : 1 ≡ 0 = heads 1 0 (w x ++ u) v e in absurd (omega (arith, bad))
option_front w s ok one (Some x) (Some y) cfg other u v p q e = one x y cfg other u v p q (tails 1 1 (w x ++ u) (w y ++ v) e)

option_found : {A C : Type 0} (w : A → List ℕ) (s : A → A → Type 0) (ok : C → A → Type 0) (found : MarkedText → ℕ → C → A → Type 0)
    (fault : MarkedText → ℕ → C → Fault → Type 0) → IsForm A C w s ok found fault → (x : Option A) (cfg : C) (text : MarkedText) (skip : ℕ)
    → IsOptionFound found text skip cfg x
    → IsOptionAdmitted ok cfg x × (take (length (option_written w x)) (drop skip text.bytes) ≡ option_written w x)
option_found w s ok found fault a None cfg text skip h = (tt, h)
option_found w s ok found fault a (Some x) cfg text skip h =
    let (in', front) = a.found_written x cfg text (skip + 1) h.1 in
    (in', two_bytes (drop skip text.bytes) (1 ∷ []) (w x) h.0 (ap (take (length (w x))) (drop-drop 1 skip text.bytes) ∙ front))

option_refused : {A C : Type 0} (w : A → List ℕ) (s : A → A → Type 0) (ok : C → A → Type 0) (found : MarkedText → ℕ → C → A → Type 0)
    (fault : MarkedText → ℕ → C → Fault → Type 0) → IsForm A C w s ok found fault
    → (x : Option A) (cfg : C) (text : MarkedText) (skip : ℕ) (rest : List ℕ)
    (f : Fault) → IsOptionAdmitted ok cfg x → drop skip text.bytes ≡ option_written w x ++ rest → IsOptionFault fault text skip cfg f
    → f ≡ no_memory
option_refused w s ok found fault a None cfg text skip rest f p e h =
    elim h [
      | inl wrong ↦ absurd (no_bool_fault text skip 0 f (omega arith) (ap (take 1) e) wrong)
      | inr (at, inside) ↦ let bad = first_of (drop skip text.bytes) 1 0 rest at e in absurd (omega (arith, bad))
    ]
option_refused w s ok found fault a (Some x) cfg text skip rest f p e h =
    elim h [
      | inl wrong ↦ absurd (no_bool_fault text skip 1 f (omega arith) (ap (take 1) e) wrong)
      | inr (at, inside) ↦ a.refuses x cfg text (skip + 1) rest f p (behind_byte text skip 1 (w x ++ rest) e) inside
    ]

option_faults : {A C : Type 0} (w : A → List ℕ) (s : A → A → Type 0) (ok : C → A → Type 0) (found : MarkedText → ℕ → C → A → Type 0)
    (fault : MarkedText → ℕ → C → Fault → Type 0) → IsForm A C w s ok found fault → (x y : MarkedText) (skip : ℕ) (cfg : C) (e f : Fault)
    → x.bytes ≡ y.bytes
    → IsOptionFault fault x skip cfg e → IsOptionFault fault y skip cfg f → (e ≡ f) ⊎ ((e ≡ no_memory) ⊎ (f ≡ no_memory))
option_faults w s ok found fault a x y skip cfg e f is p q =
    let one : drop skip x.bytes ≡ drop skip y.bytes = ap (drop skip) is in
    elim p [
      | inl wrong ↦ elim q [
        | inl too ↦ inl (one_bool_fault x y skip e f is wrong too)
        | inr (at, inside) ↦ absurd (no_bool_fault x skip 1 e (omega arith) (ap (take 1) one ∙ at) wrong)
      ]
      | inr (at, inside) ↦ elim q [
        | inl wrong ↦ absurd (no_bool_fault y skip 1 f (omega arith) (ap (take 1) (sym one) ∙ at) wrong)
        | inr (at', inside') ↦ a.one_fault x y (skip + 1) cfg e f is inside inside'
      ]
    ]

pub option_form : {A C : Type 0} {w : A → List ℕ} {s : A → A → Type 0} {ok : C → A → Type 0} {found : MarkedText → ℕ → C → A → Type 0}
    {fault : MarkedText → ℕ → C → Fault → Type 0} → IsForm A C w s ok found fault
    → IsForm (Option A) C (option_written w) (IsSameOption s) (IsOptionAdmitted ok) (IsOptionFound found) (IsOptionFault fault)
option_form {w = w} {s = s} {ok = ok} {found = found} {fault = fault} a = record {
  same_written = same_option w s a.same_written;
  no_front = option_front w s ok a.no_front;
  found_written = option_found w s ok found fault a;
  refuses = option_refused w s ok found fault a;
  one_fault = option_faults w s ok found fault a;
}
