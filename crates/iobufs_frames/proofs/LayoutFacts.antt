-- Lemmas about headers at the front of some bytes.
--     admits_written, admitted     a frame's length is admitted; one that is counts what it has to, and its body is in range
--     split_same                   lists that are alike have the same parts of one length
--     header_long, frame_long      how many bytes a header has, and a frame
--     length-in_front              a frame begins with a header of its length
--     one_front                    one frame is at the front, and one rest after it
--     length-later_in              a header stays whatever follows
--     seen_within                  a length that is there has the bytes before it there
--     closed_stays_in,             where no length stands in it nor can, more bytes make none; before the first byte one can
--     nothing_open_in
--     IsSized, sized               a length, its header and its body have so many bytes, which are there
--     frame_seen, has_frame,       so where it is told how many bytes its header and its body have; and all of its bytes
--     whole_taken
--     parts_at, cut_at, follows    the frame of a length at the front, where its bytes are there
use Rattle.std.proofs.Common.{◌≡◌, ℕ, ◌+◌, ◌-◌, ◌<◌, ◌≤◌, if◌then◌else◌, Bool, true, false, inl, inr, List, ◌++◌, length, take, drop, refl, ap, sym, subst, ◌∙◌, arith, append_assoc, length-append, length-drop, length-take, take-append-drop, drop-drop}
use Rattle.std.proofs.lemmas.Bool.{false≢true, ltb-true, ltb-false}
use Rattle.std.proofs.lemmas.List.{append_cancel_left, drop-append-le, drop_all}
use Rattle.std.proofs.Math.Seq.{drop-append-add, take-append_seam}
use Rattle.std.specs.Prelude.{nat_lt}
use Rattle.iobufs_core.proofs.LengthFacts.{less}
use Rattle.iobufs_core.specs.Ranges.{in_range}
use Rattle.iobufs_core.specs.declared.codec.base.RangeCfg.{RangeCfg}
use Rattle.iobufs_frames.proofs.PrefixFacts.{closed_stays, length-later, length-there, nothing_open, one_length, prefix_long}
use Rattle.iobufs_frames.specs.Frames.{CanFollow, HasFrame, IsAtFront, Parts, frame_written, has_bytes, header_written}
use Rattle.iobufs_frames.specs.Prefixes.{HasNoLengthAt, HasNoLengthIn, IsLengthAt, IsLengthIn, IsOpenAt, IsOpenIn, IsSeenIn, admits, frame_size, header_size, prefix_limit, prefix_written}
use Rattle.iobufs_frames.specs.declared.lengths.Layout.{Layout}

-- ---- what a length counts

admits_by : (range : RangeCfg) (n counts : ℕ) (low : Bool) → nat_lt (n + counts) counts ≡ low → in_range range n ≡ true
    → (if low then false else in_range range (n + counts - counts)) ≡ true
admits_by range n counts true e is = absurd (omega (arith, ltb-true (n + counts) counts e))
admits_by range n counts false e is = ap (in_range range) (omega arith) ∙ is

-- the length of a body in the range is admitted
pub admits_written : (layout : Layout) (range : RangeCfg) (n : ℕ) → in_range range n ≡ true → admits layout range (n + layout.counts) ≡ true
admits_written layout range n is = admits_by range n layout.counts (nat_lt (n + layout.counts) layout.counts) refl is

admitted_by : (range : RangeCfg) (v counts : ℕ) (low : Bool) → nat_lt v counts ≡ low
    → (if low then false else in_range range (v - counts)) ≡ true → (counts ≤ v) × (in_range range (v - counts) ≡ true)
admitted_by range v counts true e is = absurd (false≢true is)
admitted_by range v counts false e is = (ltb-false v counts e, is)

-- one that is admitted counts what it has to, and the rest is in the range
pub admitted : (layout : Layout) (range : RangeCfg) (v : ℕ) → admits layout range v ≡ true
    → (layout.counts ≤ v) × (in_range range (v - layout.counts) ≡ true)
admitted layout range v is = admitted_by range v layout.counts (nat_lt v layout.counts) refl is

-- ---- a frame's bytes

-- lists that are alike have the same first bytes, and the same others
pub split_same : (a b x y : List ℕ) → length a ≡ length b → a ++ x ≡ b ++ y → (a ≡ b) × (x ≡ y)
split_same a b x y long e =
    let same : a ≡ b = sym (take-append_seam a x) ∙ ap (take (length a)) e ∙ ap (λ n. take n (b ++ y)) long ∙ take-append_seam b y in
    (same, append_cancel_left a x y (e ∙ ap (λ w. w ++ y) (sym same)))

-- how many bytes a header has
pub header_long : (layout : Layout) (f : Parts) → length f.before ≡ layout.before → length f.after ≡ layout.after
    → length (header_written layout f) ≡ header_size layout (length f.body + layout.counts)
header_long layout f before after =
    let w = prefix_written layout.prefix (length f.body + layout.counts) in
    omega (arith, before, after, length-append f.before (w ++ f.after), length-append w f.after)

-- how many bytes a frame has
pub frame_long : (layout : Layout) (f : Parts) → length f.before ≡ layout.before → length f.after ≡ layout.after
    → length (frame_written layout f) ≡ frame_size layout (length f.body + layout.counts)
frame_long layout f before after =
    omega (arith, header_long layout f before after, length-append (header_written layout f) f.body)

-- a frame's parts, and what follows it
unfolded : (layout : Layout) (f : Parts) (x : List ℕ)
    → frame_written layout f ++ x
    ≡ f.before ++ (prefix_written layout.prefix (length f.body + layout.counts) ++ (f.after ++ (f.body ++ x)))
unfolded layout f x =
    let w = prefix_written layout.prefix (length f.body + layout.counts) in
    append_assoc (header_written layout f) f.body x ∙ append_assoc f.before (w ++ f.after) (f.body ++ x)
    ∙ ap (λ xs. f.before ++ xs) (append_assoc w f.after (f.body ++ x))

-- a frame begins with a header of its length
pub length-in_front : (layout : Layout) (range : RangeCfg) (f : Parts) (more : List ℕ) → CanFollow layout range f
    → IsLengthIn layout (frame_written layout f ++ more) (length f.body + layout.counts)
length-in_front layout range f more fits =
    let w = prefix_written layout.prefix (length f.body + layout.counts) in
    let rest = f.after ++ (f.body ++ more) in
    let at : drop layout.before (frame_written layout f ++ more) ≡ w ++ rest =
    ap (drop layout.before) (unfolded layout f more)
    ∙ ap (λ k. drop k (f.before ++ (w ++ rest))) (omega (arith, fits.before))
    ∙ drop-append-add f.before (w ++ rest) 0 in
    (fits.small, ap (take (length w)) at ∙ take-append_seam w rest)

-- one frame is at the front, and one text after it
pub one_front : (layout : Layout) (range : RangeCfg) (a b : Parts) (x y : List ℕ) → CanFollow layout range a → CanFollow layout range b
    → frame_written layout a ++ x ≡ frame_written layout b ++ y → (a ≡ b) × (x ≡ y)
one_front layout range a b x y one two e =
    let written = prefix_written layout.prefix in
    let number : length a.body + layout.counts ≡ length b.body + layout.counts =
    one_length layout.prefix (drop layout.before (frame_written layout a ++ x)) (length a.body + layout.counts)
    (length b.body + layout.counts)
    (length-in_front layout range a x one)
    (subst (λ (xs : List ℕ). IsLengthIn layout xs (length b.body + layout.counts)) (sym e) (length-in_front layout range b y two)) in
    let whole = sym (unfolded layout a x) ∙ e ∙ unfolded layout b y in
    let (before, behind) =
    split_same a.before b.before (written (length a.body + layout.counts) ++ (a.after ++ (a.body ++ x)))
    (written (length b.body + layout.counts) ++ (b.after ++ (b.body ++ y))) (one.before ∙ sym two.before) whole in
    let (length_is, later) =
    split_same (written (length a.body + layout.counts)) (written (length b.body + layout.counts)) (a.after ++ (a.body ++ x))
    (b.after ++ (b.body ++ y)) (ap (λ n. length (written n)) number) behind in
    let (after, last) = split_same a.after b.after (a.body ++ x) (b.body ++ y) (one.after ∙ sym two.after) later in
    let (body, rest) = split_same a.body b.body x y (omega (arith, number)) last in
    (λ i. record { before = before i; after = after i; body = body i }, rest)

-- ---- more bytes

-- a header stays whatever follows
pub length-later_in : (layout : Layout) (bytes more : List ℕ) (v : ℕ) → IsLengthIn layout bytes v → IsLengthIn layout (bytes ++ more) v
length-later_in layout bytes more v at =
    let from = drop layout.before bytes in
    let there : layout.before ≤ length bytes =
    omega (arith, length-there layout.prefix from v at, prefix_long layout.prefix v at.0, length-drop layout.before bytes) in
    subst (λ (xs : List ℕ). IsLengthAt layout.prefix xs v) (sym (drop-append-le layout.before bytes more there))
    (length-later layout.prefix from more v at)

-- a length that is in a header has its bytes there, and so those before it
pub seen_within : (layout : Layout) (bytes : List ℕ) (v len : ℕ) → IsSeenIn layout bytes v len → layout.before + len ≤ length bytes
seen_within layout bytes v len (at, long, within) =
    omega (arith, long, within, prefix_long layout.prefix v at.0, length-drop layout.before bytes)

-- before the first byte a length may begin
pub nothing_open_in : (layout : Layout) (bytes : List ℕ) → length bytes ≤ layout.before → HasNoLengthIn layout bytes × IsOpenIn layout bytes
nothing_open_in layout bytes few =
    subst (λ (xs : List ℕ). HasNoLengthAt layout.prefix xs × IsOpenAt layout.prefix xs) (sym (drop_all layout.before bytes few))
    (nothing_open layout.prefix)

-- where no length stands in a header nor can, more bytes make none
pub closed_stays_in : (layout : Layout) (bytes more : List ℕ) → HasNoLengthIn layout bytes → (IsOpenIn layout bytes → ⊥)
    → HasNoLengthIn layout (bytes ++ more) × (IsOpenIn layout (bytes ++ more) → ⊥)
closed_stays_in layout bytes more none closed = elim (less (length bytes) layout.before) [
  | inl few ↦ absurd (closed (nothing_open_in layout bytes (omega (arith, few))).1)
  | inr enough ↦
      subst (λ (xs : List ℕ). HasNoLengthAt layout.prefix xs × (IsOpenAt layout.prefix xs → ⊥))
      (sym (drop-append-le layout.before bytes more enough))
      (closed_stays layout.prefix (drop layout.before bytes) more none closed)
]

-- ---- the frame of a length

-- the parts of a frame of this length
abbrev pub parts_at : Layout → List ℕ → ℕ → Parts
parts_at layout text v =
    record {
      before = take layout.before text;
      after = take layout.after (drop (layout.before + length (prefix_written layout.prefix v)) text);
      body = take (v - layout.counts) (drop (header_size layout v) text);
    }

-- they are a frame's, and what is after it follows
pub record IsCutAt (layout : Layout) (text : List ℕ) (v : ℕ) : Type 0 where
  pub before : length (parts_at layout text v).before ≡ layout.before
  pub after : length (parts_at layout text v).after ≡ layout.after
  pub long : length (parts_at layout text v).body + layout.counts ≡ v
  pub whole : text ≡ frame_written layout (parts_at layout text v) ++ drop (frame_size layout v) text

-- where a length stands that counts what it has to, and its frame's bytes are there
pub cut_at : (layout : Layout) (text : List ℕ) (v : ℕ) → IsLengthIn layout text v → layout.counts ≤ v → frame_size layout v ≤ length text
    → IsCutAt layout text v
cut_at layout text v at least fits =
    let f = parts_at layout text v in
    let w = prefix_written layout.prefix in
    let k = length (w v) in
    let b = layout.before in
    let h = header_size layout v in
    let m = v - layout.counts in
    let rest = drop (frame_size layout v) text in
    let long : length f.body + layout.counts ≡ v = omega (arith, least, fits, length-take m (drop h text), length-drop h text) in
    let body : f.body ++ rest ≡ drop h text =
    ap (λ xs. f.body ++ xs) (sym (drop-drop m h text)) ∙ take-append-drop m (drop h text) in
    let after : f.after ++ drop h text ≡ drop (b + k) text =
    ap (λ xs. f.after ++ xs) (sym (drop-drop layout.after (b + k) text)) ∙ take-append-drop layout.after (drop (b + k) text) in
    let number : w v ++ drop (b + k) text ≡ drop b text =
    ap (λ xs. w v ++ xs) (sym (drop-drop k b text)) ∙ ap (λ xs. xs ++ drop k (drop b text)) (sym at.1) ∙ take-append-drop k (drop b text) in
    record {
      before = omega (arith, fits, length-take b text);
      after = omega (arith, fits, length-take layout.after (drop (b + k) text), length-drop (b + k) text);
      long = long;
      whole =
          sym (unfolded layout f rest ∙ ap (λ n. f.before ++ (w n ++ (f.after ++ (f.body ++ rest)))) long
          ∙ ap (λ xs. f.before ++ (w v ++ (f.after ++ xs))) body ∙ ap (λ xs. f.before ++ (w v ++ xs)) after
          ∙ ap (λ xs. f.before ++ xs) number ∙ take-append-drop b text);
    }

-- it can follow, if its length is admitted
pub follows : (layout : Layout) (range : RangeCfg) (text : List ℕ) (v : ℕ) → IsLengthIn layout text v → admits layout range v ≡ true
    → frame_size layout v ≤ length text → CanFollow layout range (parts_at layout text v)
follows layout range text v at inside fits =
    let (least, ranged) = admitted layout range v inside in
    let cut = cut_at layout text v at least fits in record {
      before = cut.before;
      after = cut.after;
      small = subst (λ n. n < prefix_limit layout.prefix) (sym cut.long) at.0;
      inside = ap (in_range range) (omega (arith, cut.long)) ∙ ranged;
    }

-- a length in the header at the front, which has h bytes, gives the body m bytes, which are there, and it is admitted
abbrev pub IsSized : Layout → RangeCfg → List ℕ → ℕ → ℕ → ℕ → Type 0
IsSized layout range bytes n h m = IsLengthIn layout bytes n × (admits layout range n ≡ true) × (h ≡ header_size layout n)
    × (m + layout.counts ≡ n) × (h + m ≤ length bytes)

-- so by the numbers of a layout that is this one
pub sized : (layout same : Layout) (range : RangeCfg) (bytes : List ℕ) (n k h m len : ℕ) → same ≡ layout → IsSeenIn layout bytes n k
    → admits same range n ≡ true → h ≡ same.before + k + same.after → m + same.counts ≡ n → h + m ≤ len → len ≡ length bytes
    → IsSized layout range bytes n h m
sized layout same range bytes n k h m len lay (at, long, there) inside header body within told =
    let (is, front, size) = subst (λ (x : Layout). (admits x range n ≡ true) × (h ≡ x.before + k + x.after) × (m + x.counts ≡ n)) lay
    (inside, header, body) in (at, is, omega (arith, front, long), size, omega (arith, within, told))

-- the frame of a length, whose header and body have so many bytes
pub frame_seen : (layout : Layout) (range : RangeCfg) (bytes : List ℕ) (n h m : ℕ) → IsSized layout range bytes n h m
    → IsAtFront layout range bytes (drop (h + m) bytes) (parts_at layout bytes n)
frame_seen layout range bytes n h m (at, inside, front, size, fits) =
    let whole : frame_size layout n ≤ length bytes = omega (arith, front, size, fits) in
    let same : frame_size layout n ≡ h + m = omega (arith, front, size) in
    record {
      admitted = follows layout range bytes n at inside whole;
      whole = (cut_at layout bytes n at (admitted layout range n inside).0 whole).whole
          ∙ ap (λ k. frame_written layout (parts_at layout bytes n) ++ drop k bytes) same;
    }

-- there is one
pub has_frame : (needs : Parts → Type 0) (layout : Layout) (range : RangeCfg) (bytes : List ℕ) (n h m : ℕ)
    → IsSized layout range bytes n h m → needs (parts_at layout bytes n) → HasFrame needs layout range bytes
has_frame needs layout range bytes n h m sized needed =
    let taken = frame_seen layout range bytes n h m sized in
    record { frame = parts_at layout bytes n; more = drop (h + m) bytes; admitted = taken.admitted; whole = taken.whole; needed = needed }

-- one whose body has bytes
pub has_body : (layout : Layout) (range : RangeCfg) (bytes : List ℕ) (n h m : ℕ) → IsSized layout range bytes n h m → 0 < m
    → HasFrame has_bytes layout range bytes
has_body layout range bytes n h m (at, inside, front, size, fits) some =
    has_frame has_bytes layout range bytes n h m (at, inside, front, size, fits) (omega (
      arith,
      some,
      front,
      size,
      fits,
      length-take (n - layout.counts) (drop (header_size layout n) bytes),
      length-drop (header_size layout n) bytes,
    ))

-- its bytes are the first
pub whole_taken : (layout : Layout) (range : RangeCfg) (bytes left text : List ℕ) (n h m : ℕ)
    → IsSized layout range bytes n h m → text ≡ take (h + m) bytes → left ≡ drop (h + m) bytes
    → (frame : Parts) × IsAtFront layout range bytes left frame
    × ((text ≡ frame_written layout frame) × (h ≡ length (header_written layout frame)))
whole_taken layout range bytes left text n h m (at, inside, front, size, fits) made rest =
    let frame = parts_at layout bytes n in
    let taken = frame_seen layout range bytes n h m (at, inside, front, size, fits) in
    let fit = taken.admitted in
    let whole : frame_size layout n ≤ length bytes = omega (arith, front, size, fits) in
    let number = (cut_at layout bytes n at (admitted layout range n inside).0 whole).long in
    let sum : h + m ≡ length (frame_written layout frame) =
    sym (frame_long layout frame fit.before fit.after ∙ ap (frame_size layout) number ∙ omega (arith, front, size)) in (
      frame,
      subst (λ (w : List ℕ). IsAtFront layout range bytes w frame) (sym rest) taken,
      (
        made ∙ ap (take (h + m)) taken.whole ∙ ap (λ k. take k (frame_written layout frame ++ drop (h + m) bytes)) sum
            ∙ take-append_seam (frame_written layout frame) (drop (h + m) bytes),
        front ∙ sym (header_long layout frame fit.before fit.after ∙ ap (header_size layout) number),
      ),
    )
