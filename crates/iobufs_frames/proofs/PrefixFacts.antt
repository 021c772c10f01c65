-- Lemmas about lengths at the front of some bytes, for callers.
--     form_of              numbers of one size are written in that many bytes, and no two alike
--     one_length           bytes begin with one length
--     length-there,        a length is at the front only if its bytes are there, so none if there are fewer than a
--     too_few              number has
--     prefix_long,         a length has a byte, and no more than ten
--     prefix_short
--     length-before,       a length that was written is at the front; and stays whatever follows, or where less does
--     length-later,
--     length-sooner
--     some_length          a length is at the front, or none is
--     may_be_open          more bytes could make one, or can't
--     closed_stays,        where they can't, more bytes don't; before the first byte they can
--     nothing_open
use Rattle.std.proofs.Common.{◌≡◌, ◌⊎◌, inl, inr, ℕ, ◌^◌, ◌<◌, ◌≤◌, Bool, true, false, List, [], ◌∷◌, ◌++◌, length, take, refl, ap, sym, ◌∙◌, arith, length-append, length-take}
use Rattle.std.proofs.lemmas.Bool.{false≢true}
use Rattle.std.proofs.lemmas.List.{take-append-le}
use Rattle.std.proofs.lemmas.Nat.{from_be_bytes-to_be_bytes_2, from_be_bytes-to_be_bytes_4, from_be_bytes-to_be_bytes_8, from_le_bytes-to_le_bytes_2, from_le_bytes-to_le_bytes_4, from_le_bytes-to_le_bytes_8}
use Rattle.std.proofs.lemmas.Slice.Eq.{bytes_eq-Decides}
use Rattle.std.proofs.Math.Seq.{take-append_seam}
use Rattle.std.specs.Int.{byte_at, bytes_high_first, bytes_low_first, from_be_bytes, from_le_bytes, w8, w16, w32, w64}
use Rattle.std.specs.Str.{bytes_eq}
use Rattle.iobufs_core.proofs.LengthFacts.{has_length, less, no_length_later, opened, still_closed}
use Rattle.iobufs_core.specs.ReadLaws.{IsNumberForm}
use Rattle.iobufs_core.specs.Spelled.{length-spell, none_high, spelled, spelled_as_one}
use Rattle.iobufs_core.specs.Spelling.{spell, IsSpelling}
use Rattle.iobufs_frames.specs.Prefixes.{HasNoLengthAt, IsLengthAt, IsOpenAt, prefix_limit, prefix_written, width_size}
use Rattle.iobufs_frames.specs.declared.lengths.ByteOrder.{ByteOrder}
use Rattle.iobufs_frames.specs.declared.lengths.ByteOrder.TheVariants.{Big, Little}
use Rattle.iobufs_frames.specs.declared.lengths.Prefix.{Prefix}
use Rattle.iobufs_frames.specs.declared.lengths.Prefix.TheVariants.{Spelled, Fixed}
use Rattle.iobufs_frames.specs.declared.lengths.Width.{Width}
use Rattle.iobufs_frames.specs.declared.lengths.Width.TheVariants.{U8, U16, U24, U32, U64}

-- the number that so many bytes are read as
number_of : Width → ByteOrder → List ℕ → ℕ
number_of U8 order bytes = from_be_bytes w8 bytes
number_of U16 Big bytes = from_be_bytes w16 bytes
number_of U24 Big bytes = from_be_bytes w32 (0 ∷ bytes)
number_of U32 Big bytes = from_be_bytes w32 bytes
number_of U64 Big bytes = from_be_bytes w64 bytes
number_of U16 Little bytes = from_le_bytes w16 bytes
number_of U24 Little bytes = from_le_bytes w32 (bytes ++ 0 ∷ [])
number_of U32 Little bytes = from_le_bytes w32 bytes
number_of U64 Little bytes = from_le_bytes w64 bytes

-- a number below 2 ^ 24 has no fourth byte
fourth : (n : ℕ) → n < 256 ^ 3 → byte_at 3 n ≡ 0
fourth n small = omega (arith, small)

-- a number that was written is read again
number_back : (width : Width) (order : ByteOrder) (n : ℕ) → n < prefix_limit (Fixed width order)
    → number_of width order (prefix_written (Fixed width order) n) ≡ n
unfolding number_of
number_back U8 Big n small = omega (arith, small)
number_back U16 Big n small = from_be_bytes-to_be_bytes_2 n small
number_back U24 Big n small = ap (λ b. from_be_bytes w32 (b ∷ bytes_high_first 3 n)) (sym (fourth n small))
    ∙ from_be_bytes-to_be_bytes_4 n (omega (arith, small))
number_back U32 Big n small = from_be_bytes-to_be_bytes_4 n small
number_back U64 Big n small = from_be_bytes-to_be_bytes_8 n small
number_back U8 Little n small = omega (arith, small)
number_back U16 Little n small = from_le_bytes-to_le_bytes_2 n small
number_back U24 Little n small = ap (λ b. from_le_bytes w32 (bytes_low_first 0 3 n ++ b ∷ [])) (sym (fourth n small))
    ∙ from_le_bytes-to_le_bytes_4 n (omega (arith, small))
number_back U32 Little n small = from_le_bytes-to_le_bytes_4 n small
number_back U64 Little n small = from_le_bytes-to_le_bytes_8 n small

-- a number is written in so many bytes
number_long : (width : Width) (order : ByteOrder) (n : ℕ) → length (prefix_written (Fixed width order) n) ≡ width_size width
number_long U8 Big n = refl
number_long U16 Big n = refl
number_long U24 Big n = refl
number_long U32 Big n = refl
number_long U64 Big n = refl
number_long U8 Little n = refl
number_long U16 Little n = refl
number_long U24 Little n = refl
number_long U32 Little n = refl
number_long U64 Little n = refl

-- no two numbers of one size are written alike
pub form_of : (width : Width) (order : ByteOrder) → IsNumberForm (prefix_written (Fixed width order)) (width_size width)
form_of width order = record {
  long = number_long width order;
  one = λ m n p q e. sym (number_back width order m p) ∙ ap (number_of width order) e ∙ number_back width order n q;
}

some_byte : (xs : List ℕ) (n : ℕ) → IsSpelling xs n → 0 < length xs
some_byte [] n is = absurd is
some_byte (x ∷ xs) n is = omega arith

-- a length has a byte
pub prefix_long : (prefix : Prefix) (n : ℕ) → n < prefix_limit prefix → 0 < length (prefix_written prefix n)
prefix_long Spelled n small = some_byte (spell n) n (spelled n small)
prefix_long (Fixed U8 order) n small = omega (arith, (form_of U8 order).long n)
prefix_long (Fixed U16 order) n small = omega (arith, (form_of U16 order).long n)
prefix_long (Fixed U24 order) n small = omega (arith, (form_of U24 order).long n)
prefix_long (Fixed U32 order) n small = omega (arith, (form_of U32 order).long n)
prefix_long (Fixed U64 order) n small = omega (arith, (form_of U64 order).long n)

-- a length has at most ten bytes
pub prefix_short : (prefix : Prefix) (n : ℕ) → length (prefix_written prefix n) ≤ 10
prefix_short Spelled n = length-spell n
prefix_short (Fixed U8 order) n = omega (arith, (form_of U8 order).long n)
prefix_short (Fixed U16 order) n = omega (arith, (form_of U16 order).long n)
prefix_short (Fixed U24 order) n = omega (arith, (form_of U24 order).long n)
prefix_short (Fixed U32 order) n = omega (arith, (form_of U32 order).long n)
prefix_short (Fixed U64 order) n = omega (arith, (form_of U64 order).long n)

-- a length is at the front only where its bytes are there
pub length-there : (prefix : Prefix) (bytes : List ℕ) (n : ℕ) → IsLengthAt prefix bytes n → length (prefix_written prefix n) ≤ length bytes
length-there prefix bytes n (small, is) =
    let k = length (prefix_written prefix n) in
    omega (arith, length-take k bytes, ap length is)

-- where there are fewer bytes than a number has, none stands
pub too_few : (width : Width) (order : ByteOrder) (bytes : List ℕ) → length bytes < width_size width
    → HasNoLengthAt (Fixed width order) bytes
too_few width order bytes few n at =
    let there = length-there (Fixed width order) bytes n at in
    absurd (omega (arith, few, there, (form_of width order).long n))

-- a text begins with one length
pub one_length : (prefix : Prefix) (bytes : List ℕ) (m n : ℕ) → IsLengthAt prefix bytes m → IsLengthAt prefix bytes n → m ≡ n
one_length Spelled bytes m n p q = spelled_as_one bytes m n p q
one_length (Fixed width order) bytes m n (small, p) (least, q) =
    let form = form_of width order in
    form.one m n small least (sym p ∙ ap (λ k. take k bytes) (form.long m ∙ sym (form.long n)) ∙ q)

-- a length that was written is at the front
pub length-before : (prefix : Prefix) (n : ℕ) (rest : List ℕ) → n < prefix_limit prefix
    → IsLengthAt prefix (prefix_written prefix n ++ rest) n
length-before prefix n rest small = (small, take-append_seam (prefix_written prefix n) rest)

-- a length stays at the front whatever follows
pub length-later : (prefix : Prefix) (bytes more : List ℕ) (n : ℕ) → IsLengthAt prefix bytes n → IsLengthAt prefix (bytes ++ more) n
length-later prefix bytes more n at =
    (at.0, take-append-le (length (prefix_written prefix n)) bytes more (length-there prefix bytes n at) ∙ at.1)

-- a length is there once its bytes are
pub length-sooner : (prefix : Prefix) (bytes more : List ℕ) (n : ℕ) → length (prefix_written prefix n) ≤ length bytes
    → IsLengthAt prefix (bytes ++ more) n
    → IsLengthAt prefix bytes n
length-sooner prefix bytes more n l at = (at.0, sym (take-append-le (length (prefix_written prefix n)) bytes more l) ∙ at.1)

-- ---- whether a length is at the front

-- only the number that the front is read as can stand there
only_number : (width : Width) (order : ByteOrder) (bytes : List ℕ) (n : ℕ) → IsLengthAt (Fixed width order) bytes n
    → number_of width order (take (width_size width) bytes) ≡ n
only_number width order bytes n (small, at) =
    ap (number_of width order) (ap (λ k. take k bytes) (sym ((form_of width order).long n)) ∙ at) ∙ number_back width order n small

written_there : (width : Width) (order : ByteOrder) (bytes : List ℕ) (n : ℕ) (same : Bool) → n < prefix_limit (Fixed width order)
    → n ≡ number_of width order (take (width_size width) bytes)
    → same ≡ bytes_eq (take (width_size width) bytes) (prefix_written (Fixed width order) n)
    → ((n : ℕ) × IsLengthAt (Fixed width order) bytes n) ⊎ HasNoLengthAt (Fixed width order) bytes
written_there width order bytes n true small is same =
    let front = take (width_size width) bytes in
    let at = (bytes_eq-Decides front (prefix_written (Fixed width order) n)).0 (sym same) in
    inl (n, (small, ap (λ k. take k bytes) ((form_of width order).long n) ∙ at))
written_there width order bytes n false small is same =
    let prefix = Fixed width order in
    let front = take (width_size width) bytes in
    inr (λ m at.
    let equal : m ≡ n = sym (only_number width order bytes m at) ∙ sym is in
    let there : front ≡ prefix_written prefix n =
    ap (λ k. take k bytes) (sym ((form_of width order).long m)) ∙ at.1 ∙ ap (prefix_written prefix) equal in
    false≢true (same ∙ (bytes_eq-Decides front (prefix_written prefix n)).1 there))

-- a length is at the front, or none is
pub some_length : (prefix : Prefix) (bytes : List ℕ) → ((n : ℕ) × IsLengthAt prefix bytes n) ⊎ HasNoLengthAt prefix bytes
some_length Spelled bytes = has_length bytes
some_length (Fixed width order) bytes =
    let front = take (width_size width) bytes in
    let n = number_of width order front in
    elim (less n (prefix_limit (Fixed width order))) [
      | inl small ↦ written_there width order bytes n (bytes_eq front (prefix_written (Fixed width order) n)) small refl refl
      | inr long ↦ inr (λ m at. let low = at.0 in absurd (omega (arith, long, low, only_number width order bytes m at)))
    ]

-- more bytes could make a length, or can't
pub may_be_open : (prefix : Prefix) (bytes : List ℕ) → IsOpenAt prefix bytes ⊎ (IsOpenAt prefix bytes → ⊥)
may_be_open Spelled bytes = opened bytes
may_be_open (Fixed width order) bytes = elim (less (length bytes) (width_size width)) [
  | inl few ↦ inl few
  | inr enough ↦ inr (λ few. omega (arith, few, enough))
]

-- where no length stands nor can, more bytes make none
pub closed_stays : (prefix : Prefix) (bytes more : List ℕ) → HasNoLengthAt prefix bytes → (IsOpenAt prefix bytes → ⊥)
    → HasNoLengthAt prefix (bytes ++ more) × (IsOpenAt prefix (bytes ++ more) → ⊥)
closed_stays Spelled bytes more none closed = (no_length_later bytes more none closed, still_closed bytes more closed)
closed_stays (Fixed width order) bytes more none closed =
    let prefix = Fixed width order in (
      λ n at. elim (less (length bytes) (width_size width)) [
        | inl few ↦ closed few
        | inr enough ↦ none n (length-sooner prefix bytes more n (omega (arith, enough, (form_of width order).long n)) at)
      ],
      λ few. closed (omega (arith, few, length-append bytes more)),
    )

-- before the first byte a length may begin
pub nothing_open : (prefix : Prefix) → HasNoLengthAt prefix [] × IsOpenAt prefix []
nothing_open Spelled = (none_high [] tt, (omega arith, tt))
nothing_open (Fixed U8 order) = (too_few U8 order [] (omega arith), omega arith)
nothing_open (Fixed U16 order) = (too_few U16 order [] (omega arith), omega arith)
nothing_open (Fixed U24 order) = (too_few U24 order [] (omega arith), omega arith)
nothing_open (Fixed U32 order) = (too_few U32 order [] (omega arith), omega arith)
nothing_open (Fixed U64 order) = (too_few U64 order [] (omega arith), omega arith)
