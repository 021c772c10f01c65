-- The laws of reading: it doesn't depend on the chunking, and what was written is read back whatever follows.
--     IsOutside                              there is a varint that the range doesn't admit, and the error has it
--     IsNumberForm                           how numbers of a width are written: in n bytes, and no two alike
--     not_both, one_outside, number_fault    a length isn't both in the range and outside; one error has it; a number
--                                            only lacks bytes
--     length_alike, bytes_alike,             the chunking changes nothing that is read
--     views_alike, number_alike
--     length_back, bytes_back, view_back,    what was written is read back, whatever follows
--     number_back
use Rattle.std.proofs.Common.{◌≡◌, ◌⊎◌, inl, inr, ℕ, ◌+◌, ◌^◌, ◌<◌, ◌≤◌, true, false, Result, Ok, Err, List, ◌++◌, length, take, drop, ap, sym, subst, ◌∙◌, refl, arith, append_assoc, length-append}
use Rattle.std.proofs.Math.Seq.{take-append_seam}
use Rattle.std.proofs.lemmas.List.{drop_at, take_at}
use Rattle.iobufs_core.specs.MarkedText.{MarkedText, taken_view}
use Rattle.iobufs_core.specs.Ranges.{in_range}
use Rattle.iobufs_core.specs.ReadBack.{IsReadBack, IsReadAlike}
use Rattle.iobufs_core.specs.ReadBytes.{bytes-taken_view}
use Rattle.iobufs_core.specs.Spelling.{spell, IsSpelledAt, HasNoLength, IsOpen}
use Rattle.iobufs_core.specs.Spelled.{spelled_as_one, spelled_before}
use Rattle.iobufs_core.specs.View.{View}
use Rattle.iobufs_core.specs.Wire.{HasView, IsLengthRead, IsViewFault, IsViewRead, IsBytesRead, IsNumberRead, bytes_written, view_written}
use Rattle.iobufs_core.specs.declared.codec.base.Error.{Error}
use Rattle.iobufs_core.specs.declared.codec.base.Error.TheVariants.{EndOfBuffer, InvalidVarint, InvalidLength, Memory, BadLayout, TooLong}
use Rattle.iobufs_core.specs.declared.codec.base.RangeCfg.{RangeCfg}

-- ---- lengths

-- the bytes begin with the varint of a length outside the range, which the error has
pub record IsOutside (bytes : List ℕ) (range : RangeCfg) (error : Error) : Type 0 where
  pub n : ℕ
  pub told : error ≡ InvalidLength n
  pub at : IsSpelledAt bytes n
  pub outside : in_range range n ≡ false

-- why a length is not read: it is outside the range, or no varint is whole, and more bytes may make one or not
LengthFault : List ℕ → RangeCfg → Error → Type 0
LengthFault bytes range error =
    IsOutside bytes range error ⊎ (HasNoLength bytes
    × (((error ≡ EndOfBuffer) × IsOpen bytes) ⊎ ((error ≡ InvalidVarint) × (IsOpen bytes → ⊥))))

length_fault : (bytes : List ℕ) (range : RangeCfg) (error : Error) → IsLengthRead bytes range (Err error) → LengthFault bytes range error
unfolding LengthFault
length_fault bytes range EndOfBuffer h = inr (h.0, inl (refl, h.1))
length_fault bytes range InvalidVarint h = inr (h.0, inr (refl, h.1))
length_fault bytes range (InvalidLength n) h = inl (record { n = n; told = refl; at = h.0; outside = h.1 })
length_fault bytes range Memory h = absurd h
length_fault bytes range BadLayout h = absurd h
length_fault bytes range TooLong h = absurd h

-- a length in the range and one outside it are two
pub not_both : (bytes : List ℕ) (range : RangeCfg) (n : ℕ) (error : Error) → IsSpelledAt bytes n → in_range range n ≡ true
    → IsOutside bytes range error → ⊥
not_both bytes range n error at inside out =
    let same : n ≡ out.n = spelled_as_one bytes n out.n at out.at in
    let both : true ≡ false = sym inside ∙ ap (in_range range) same ∙ out.outside in cc

pub one_outside : (bytes : List ℕ) (range : RangeCfg) (a b : Error) → IsOutside bytes range a → IsOutside bytes range b → a ≡ b
one_outside bytes range a b out other = out.told ∙ ap InvalidLength (spelled_as_one bytes out.n other.n out.at other.at) ∙ sym other.told

-- reading a length that is first, and in the range, succeeds
pub no_fault : (bytes : List ℕ) (range : RangeCfg) (n : ℕ) (error : Error) → IsLengthRead bytes range (Ok n)
    → IsLengthRead bytes range (Err error) → ⊥
unfolding LengthFault
no_fault bytes range n error found fault =
    elim (length_fault bytes range error fault) [
      | inl out ↦ not_both bytes range n error found.0 found.1 out
      | inr none ↦ none.0 n found.0
    ]

one_fault : (bytes : List ℕ) (range : RangeCfg) (a b : Error) → IsLengthRead bytes range (Err a) → IsLengthRead bytes range (Err b) → a ≡ b
unfolding LengthFault
one_fault bytes range a b p q =
    elim (length_fault bytes range a p) [
      | inl out ↦ elim (length_fault bytes range b q) [
        | inl other ↦ one_outside bytes range a b out other
        | inr none ↦ absurd (none.0 out.n out.at)
      ]
      | inr none ↦ elim (length_fault bytes range b q) [
        | inl other ↦ absurd (none.0 other.n other.at)
        | inr nor ↦ elim none.1 [
          | inl opened ↦ elim nor.1 [ inl too ↦ opened.0 ∙ sym too.0 | inr ended ↦ absurd (ended.1 opened.1) ]
          | inr ended ↦ elim nor.1 [ inl opened ↦ absurd (ended.1 opened.1) | inr too ↦ ended.0 ∙ sym too.0 ]
        ]
      ]
    ]

-- reading a length is a function of the bytes and the range
same_length : (bytes : List ℕ) (range : RangeCfg) (a b : Result ℕ Error) → IsLengthRead bytes range a → IsLengthRead bytes range b
    → IsReadAlike (λ m n. m ≡ n) a b
same_length bytes range (Ok m) (Ok n) p q = spelled_as_one bytes m n p.0 q.0
same_length bytes range (Ok m) (Err error) p q = absurd (no_fault bytes range m error p q)
same_length bytes range (Err error) (Ok n) p q = absurd (no_fault bytes range n error q p)
same_length bytes range (Err a) (Err b) p q = inl (one_fault bytes range a b p q)

pub length_alike : (s t : MarkedText) (range : RangeCfg) (a b : Result ℕ Error) → s.bytes ≡ t.bytes → IsLengthRead s.bytes range a
    → IsLengthRead t.bytes range b → IsReadAlike (λ m n. m ≡ n) a b
length_alike s t range a b e p q = same_length t.bytes range a b (subst (λ (xs : List ℕ). IsLengthRead xs range a) e p) q

back : (n : ℕ) (bytes : List ℕ) (range : RangeCfg) (answer : Result ℕ Error) → IsLengthRead bytes range (Ok n)
    → IsLengthRead bytes range answer
    → IsReadBack (λ m k. m ≡ k) n answer
back n bytes range (Ok m) found read = spelled_as_one bytes n m found.0 read.0
back n bytes range (Err error) found read = absurd (no_fault bytes range n error found read)

pub length_back : (n : ℕ) (range : RangeCfg) (bytes rest : List ℕ) (answer : Result ℕ Error) → n < 2 ^ 64 → in_range range n ≡ true
    → bytes ≡ spell n ++ rest
    → IsLengthRead bytes range answer → IsReadBack (λ m k. m ≡ k) n answer
length_back n range bytes rest answer small inside e read =
    let found : IsLengthRead bytes range (Ok n) = (
      subst (λ (xs : List ℕ). IsSpelledAt xs n) (sym e) (spelled_before n rest small),
      inside,
    ) in
    back n bytes range answer found read

-- ---- views, and bytes after their length

-- the bytes begin with a length in the range, and fewer follow than it says
record IsShort (bytes : List ℕ) (range : RangeCfg) : Type 0 where
  n : ℕ
  read : IsLengthRead bytes range (Ok n)
  few : length bytes < length (spell n) + n

-- why no view is read: an allocation failed, or the length has a fault, or it is longer than what is there
ViewFault : MarkedText → RangeCfg → Error → Type 0
ViewFault text range error =
    (error ≡ Memory) ⊎ (IsLengthRead text.bytes range (Err error) ⊎ ((error ≡ EndOfBuffer) × IsShort text.bytes range))

view_fault : (text : MarkedText) (range : RangeCfg) (error : Error) → IsViewFault text range error → ViewFault text range error
unfolding ViewFault
view_fault text range Memory h = inl refl
view_fault text range EndOfBuffer h = elim h [
  | inl p ↦ inr (inl p)
  | inr (n, read, few) ↦ inr (inr (refl, record { n = n; read = read; few = few }))
]
view_fault text range InvalidVarint h = inr (inl h)
view_fault text range (InvalidLength n) h = inr (inl h)
view_fault text range BadLayout h = inr (inl h)
view_fault text range TooLong h = inr (inl h)

-- where a view is there to be read, only an allocation can fail
only_memory : (s t : MarkedText) (range : RangeCfg) (n : ℕ) (error : Error) → s.bytes ≡ t.bytes → HasView s range n
    → IsViewFault t range error → error ≡ Memory
unfolding ViewFault
only_memory s t range n error e has fault =
    let found : IsLengthRead t.bytes range (Ok n) = subst (λ (xs : List ℕ). IsLengthRead xs range (Ok n)) e has.0 in
    let long : length (spell n) + n ≤ length t.bytes = subst (λ (xs : List ℕ). length (spell n) + n ≤ length xs) e has.1 in
    elim (view_fault t range error fault) [
      | inl memory ↦ memory
      | inr other ↦ elim other [
        | inl wrong ↦ absurd (no_fault t.bytes range n error found wrong)
        | inr (ended, short) ↦
            let same : short.n ≡ n = spelled_as_one t.bytes short.n n short.read.0 found.0 in
            let sum : length (spell short.n) + short.n ≡ length (spell n) + n = ap (λ k. length (spell k) + k) same in
            absurd (omega (arith, long, short.few, sum))
      ]
    ]

-- two faults at the same bytes are one, memory aside
faults_alike : (s t : MarkedText) (range : RangeCfg) (a b : Error) → s.bytes ≡ t.bytes → IsViewFault s range a → IsViewFault t range b
    → (a ≡ b)
    ⊎ ((a ≡ Memory) ⊎ (b ≡ Memory))
unfolding ViewFault
faults_alike s t range a b e p q =
    elim (view_fault s range a p) [
      | inl memory ↦ inr (inl memory)
      | inr one ↦ elim (view_fault t range b q) [
        | inl memory ↦ inr (inr memory)
        | inr two ↦ elim one [
          | inl wrong ↦
              let moved = subst (λ (xs : List ℕ). IsLengthRead xs range (Err a)) e wrong in
              elim two [
                | inl other ↦ inl (one_fault t.bytes range a b moved other)
                | inr (ended, short) ↦ absurd (no_fault t.bytes range short.n a short.read moved)
              ]
          | inr (ended, short) ↦ elim two [
            | inl other ↦ absurd (no_fault t.bytes range short.n b
                (subst (λ (xs : List ℕ). IsLengthRead xs range (Ok short.n)) e short.read) other)
            | inr too ↦ inl (ended ∙ sym too.0)
          ]
        ]
      ]
    ]

-- the bytes of two views that are there at the same bytes
same_taken : (s t : MarkedText) (range : RangeCfg) (m n : ℕ) → s.bytes ≡ t.bytes → HasView s range m → HasView t range n
    → take m (drop (length (spell m)) s.bytes) ≡ take n (drop (length (spell n)) t.bytes)
same_taken s t range m n e p q =
    let (at, inside) = subst (λ (xs : List ℕ). IsLengthRead xs range (Ok m)) e p.0 in
    let (at', inside') = q.0 in
    let same : m ≡ n = spelled_as_one t.bytes m n at at' in
    ap (λ k. take k (drop (length (spell k)) s.bytes)) same ∙ ap (λ xs. take n (drop (length (spell n)) xs)) e

pub bytes_alike : (s t : MarkedText) (range : RangeCfg) (a b : Result (List ℕ) Error) → s.bytes ≡ t.bytes → IsBytesRead s range a
    → IsBytesRead t range b
    → IsReadAlike (λ x y. x ≡ y) a b
bytes_alike s t range (Ok x) (Ok y) e (m, there, is) (n, there', is') = is ∙ same_taken s t range m n e there there' ∙ sym is'
bytes_alike s t range (Ok x) (Err error) e (m, there, is) q = only_memory s t range m error e there q
bytes_alike s t range (Err error) (Ok y) e p (n, there, is) = only_memory t s range n error (sym e) there p
bytes_alike s t range (Err a) (Err b) e p q = faults_alike s t range a b e p q

-- the bytes of a view that was read were read
bytes_of_read : (text : MarkedText) (n : ℕ) (view : View) → view ≡ taken_view text (length (spell n)) n
    → view.bytes ≡ take n (drop (length (spell n)) text.bytes)
bytes_of_read text n view e = ap (λ (v : View). v.bytes) e ∙ bytes-taken_view text (length (spell n)) n

pub views_alike : (s t : MarkedText) (range : RangeCfg) (a b : Result View Error) → s.bytes ≡ t.bytes → IsViewRead s range a
    → IsViewRead t range b
    → IsReadAlike (λ x y. x.bytes ≡ y.bytes) a b
views_alike s t range (Ok x) (Ok y) e (m, there, is) (n, there', is') =
    bytes_of_read s m x is ∙ same_taken s t range m n e there there' ∙ sym (bytes_of_read t n y is')
views_alike s t range (Ok x) (Err error) e (m, there, is) q = only_memory s t range m error e there q
views_alike s t range (Err error) (Ok y) e p (n, there, is) = only_memory t s range n error (sym e) there p
views_alike s t range (Err a) (Err b) e p q = faults_alike s t range a b e p q

-- written bytes are there to be read, whatever follows
written_there : (text : MarkedText) (range : RangeCfg) (bytes rest : List ℕ) → length bytes < 2 ^ 64 → in_range range (length bytes) ≡ true
    → text.bytes ≡ bytes_written bytes ++ rest
    → HasView text range (length bytes) × (take (length bytes) (drop (length (spell (length bytes))) text.bytes) ≡ bytes)
written_there text range bytes rest small inside e =
    let n = length bytes in
    let split : text.bytes ≡ spell n ++ (bytes ++ rest) = e ∙ append_assoc (spell n) bytes rest in
    let spelled : IsSpelledAt text.bytes n = subst (λ (xs : List ℕ). IsSpelledAt xs n) (sym split)
    (spelled_before n (bytes ++ rest) small) in
    let long : length (spell n) + n ≤ length text.bytes =
    omega (arith, ap (λ (xs : List ℕ). length xs) split, length-append (spell n) (bytes ++ rest), length-append bytes rest) in
    let behind : drop (length (spell n)) text.bytes ≡ bytes ++ rest =
    ap (drop (length (spell n))) split ∙ drop_at (spell n) (bytes ++ rest) (length (spell n)) refl in
    (((spelled, inside), long), ap (take n) behind ∙ take-append_seam bytes rest)

pub bytes_back : (bytes : List ℕ) (range : RangeCfg) (text : MarkedText) (rest : List ℕ) (answer : Result (List ℕ) Error)
    → length bytes < 2 ^ 64
    → in_range range (length bytes) ≡ true
    → text.bytes ≡ bytes_written bytes ++ rest → IsBytesRead text range answer → IsReadBack (λ x y. x ≡ y) bytes answer
bytes_back bytes range text rest (Ok read) small inside e (n, there, is) =
    let (written, same) = written_there text range bytes rest small inside e in
    sym (is ∙ same_taken text text range n (length bytes) refl there written ∙ same)
bytes_back bytes range text rest (Err error) small inside e h =
    only_memory text text range (length bytes) error refl (written_there text range bytes rest small inside e).0 h

pub view_back : (view : View) (range : RangeCfg) (text : MarkedText) (rest : List ℕ) (answer : Result View Error)
    → length view.bytes < 2 ^ 64
    → in_range range (length view.bytes) ≡ true
    → text.bytes ≡ view_written view ++ rest → IsViewRead text range answer → IsReadBack (λ x y. x.bytes ≡ y.bytes) view answer
view_back view range text rest (Ok read) small inside e (n, there, is) =
    let (written, same) = written_there text range view.bytes rest small inside e in
    sym (bytes_of_read text n read is ∙ same_taken text text range n (length view.bytes) refl there written ∙ same)
view_back view range text rest (Err error) small inside e h =
    only_memory text text range (length view.bytes) error refl (written_there text range view.bytes rest small inside e).0 h

-- ---- numbers

-- numbers that fit have this many bytes, and each its own
pub record IsNumberForm (written : ℕ → List ℕ) (size : ℕ) : Type 0 where
  pub long : (n : ℕ) → length (written n) ≡ size
  pub one : (m n : ℕ) → m < 256 ^ size → n < 256 ^ size → written m ≡ written n → m ≡ n

-- the only fault is the end of the buffer
pub number_fault : (written : ℕ → List ℕ) (size : ℕ) (bytes : List ℕ) (error : Error) → IsNumberRead written size bytes (Err error)
    → (error ≡ EndOfBuffer) × (length bytes < size)
number_fault written size bytes EndOfBuffer h = (refl, h)
number_fault written size bytes InvalidVarint h = absurd h
number_fault written size bytes (InvalidLength n) h = absurd h
number_fault written size bytes Memory h = absurd h
number_fault written size bytes BadLayout h = absurd h
number_fault written size bytes TooLong h = absurd h

no_number_fault : (written : ℕ → List ℕ) (size : ℕ) (bytes : List ℕ) (error : Error) → size ≤ length bytes
    → IsNumberRead written size bytes (Err error) → ⊥
no_number_fault written size bytes error long h = let short = (number_fault written size bytes error h).1 in absurd (omega arith)

same_number : (written : ℕ → List ℕ) (size : ℕ) (bytes : List ℕ) (a b : Result ℕ Error) → IsNumberForm written size
    → IsNumberRead written size bytes a
    → IsNumberRead written size bytes b → IsReadAlike (λ m n. m ≡ n) a b
same_number written size bytes (Ok m) (Ok n) form p q = form.one m n p.small q.small (p.is ∙ sym q.is)
same_number written size bytes (Ok m) (Err error) form p q = absurd (no_number_fault written size bytes error p.long q)
same_number written size bytes (Err error) (Ok n) form p q = absurd (no_number_fault written size bytes error q.long p)
same_number written size bytes (Err a) (Err b) form p q = inl
    ((number_fault written size bytes a p).0 ∙ sym (number_fault written size bytes b q).0)

pub number_alike : (written : ℕ → List ℕ) (size : ℕ) → IsNumberForm written size → (s t : MarkedText) (a b : Result ℕ Error)
    → s.bytes ≡ t.bytes
    → IsNumberRead written size s.bytes a
    → IsNumberRead written size t.bytes b → IsReadAlike (λ m n. m ≡ n) a b
number_alike written size form s t a b e p q = same_number written size t.bytes a b form
    (subst (λ (xs : List ℕ). IsNumberRead written size xs a) e p) q

pub number_back : (written : ℕ → List ℕ) (size n : ℕ) (bytes rest : List ℕ) (answer : Result ℕ Error) → IsNumberForm written size
    → n < 256 ^ size
    → bytes ≡ written n ++ rest
    → IsNumberRead written size bytes answer → IsReadBack (λ x y. x ≡ y) n answer
number_back written size n bytes rest (Ok m) form small e read =
    form.one n m small read.small (sym (read.is ∙ ap (take size) e ∙ take_at (written n) rest size (form.long n)))
number_back written size n bytes rest (Err error) form small e h =
    let long : size ≤ length bytes = omega (arith, ap (λ (xs : List ℕ). length xs) e, length-append (written n) rest, form.long n) in
    absurd (no_number_fault written size bytes error long h)
