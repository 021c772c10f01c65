-- Lemmas about frames, for callers.
--     one_end          there is one reason alone that no frame is at the front
--     stands           a frame is at the front of its bytes, so it isn't true that none is
--     none_in_front    bytes without a frame at the front have no frames
--     first_is         a frame at the front is the first of the frames
--     begins_open,     a prefix of a frame may go on, as the empty one, and what can't be a frame stays so with more
--     nothing_is_open, bytes
--     stays_bad
--     written-append,  frames are written in order, and so is one more, which can follow if its length can
--     written-push,
--     one_more
use Rattle.std.proofs.Common.{◌≡◌, ◌⊎◌, inl, inr, ℕ, ◌+◌, true, false, Err, List, [], ◌∷◌, ◌++◌, length, drop, ap, sym, subst, ◌∙◌, refl, arith, append_assoc, length-append}
use Rattle.std.proofs.lemmas.Bool.{false≢true}
use Rattle.std.proofs.lemmas.List.{append-nil}
use Rattle.iobufs_core.specs.declared.codec.base.Error.{Error}
use Rattle.iobufs_core.specs.declared.codec.base.Error.TheVariants.{EndOfBuffer, InvalidVarint, InvalidLength, Memory, BadLayout, TooLong}
use Rattle.iobufs_core.specs.declared.codec.base.RangeCfg.{RangeCfg}
use Rattle.iobufs_frames.specs.Frames.{BadStaysBad, BeginningsAreOpen, CanAllFollow, CanFollow, FirstTaken, IsFramed, LacksFrame, Parts, Takes, all_written, frame_written}
use Rattle.iobufs_frames.proofs.LayoutFacts.{admits_written, closed_stays_in, frame_long, length-in_front, length-later_in, nothing_open_in, one_front}
use Rattle.iobufs_frames.proofs.PrefixFacts.{may_be_open, one_length, some_length}
use Rattle.iobufs_frames.specs.Prefixes.{HasNoLengthIn, IsLengthIn, IsOpenIn, admits, frame_size}
use Rattle.iobufs_frames.specs.declared.End.{End}
use Rattle.iobufs_frames.specs.declared.End.TheVariants.{Open, Bad}
use Rattle.iobufs_frames.specs.declared.lengths.Layout.{Layout}

-- ---- why no frame is at the front

-- no length is at the front, nor may one have begun
record IsNone (layout : Layout) (bytes : List ℕ) (error : Error) : Type 0 where
  told : error ≡ InvalidVarint
  never : HasNoLengthIn layout bytes
  closed : IsOpenIn layout bytes → ⊥

-- a length does that isn't admitted
record IsOut (layout : Layout) (range : RangeCfg) (bytes : List ℕ) (error : Error) : Type 0 where
  n : ℕ
  told : error ≡ InvalidLength n
  at : IsLengthIn layout bytes n
  outside : admits layout range n ≡ false

IsBad : Layout → RangeCfg → List ℕ → Error → Type 0
IsBad layout range bytes error = IsNone layout bytes error ⊎ IsOut layout range bytes error

bad : (layout : Layout) (range : RangeCfg) (bytes : List ℕ) (error : Error) → LacksFrame layout range bytes (Bad error)
    → IsBad layout range bytes error
unfolding IsBad
bad layout range bytes EndOfBuffer h = absurd h
bad layout range bytes InvalidVarint h = inl (record { told = refl; never = h.0; closed = h.1 })
bad layout range bytes (InvalidLength n) h = inr (record { n = n; told = refl; at = h.0; outside = h.1 })
bad layout range bytes Memory h = absurd h
bad layout range bytes BadLayout h = absurd h
bad layout range bytes TooLong h = absurd h

-- a length in a header is one
one_length_in : (layout : Layout) (bytes : List ℕ) (m n : ℕ) → IsLengthIn layout bytes m → IsLengthIn layout bytes n → m ≡ n
one_length_in layout bytes m n p q = one_length layout.prefix (drop layout.before bytes) m n p q

-- a length that is admitted isn't one that is not
in_and_out : (layout : Layout) (range : RangeCfg) (bytes : List ℕ) (n : ℕ) (error : Error) → IsLengthIn layout bytes n
    → admits layout range n ≡ true
    → IsOut layout range bytes error → ⊥
in_and_out layout range bytes n error at inside out =
    false≢true (sym out.outside ∙ ap (admits layout range) (one_length_in layout bytes out.n n out.at at) ∙ inside)

open_or_bad : (layout : Layout) (range : RangeCfg) (bytes : List ℕ) (error : Error) → LacksFrame layout range bytes Open
    → LacksFrame layout range bytes (Bad error) → ⊥
unfolding IsBad
open_or_bad layout range bytes error p q =
    elim (bad layout range bytes error q) [
      | inl none ↦ elim p [ inl opened ↦ none.closed opened.1 | inr (n, (at, inside), few) ↦ none.never n at ]
      | inr out ↦ elim p [
        | inl opened ↦ opened.0 out.n out.at
        | inr (n, (at, inside), few) ↦ in_and_out layout range bytes n error at inside out
      ]
    ]

one_bad : (layout : Layout) (range : RangeCfg) (bytes : List ℕ) (a b : Error) → LacksFrame layout range bytes (Bad a)
    → LacksFrame layout range bytes (Bad b) → a ≡ b
unfolding IsBad
one_bad layout range bytes a b p q =
    elim (bad layout range bytes a p) [
      | inl none ↦ elim (bad layout range bytes b q) [ inl nor ↦ none.told ∙ sym nor.told | inr out ↦ absurd (none.never out.n out.at) ]
      | inr out ↦ elim (bad layout range bytes b q) [
        | inl none ↦ absurd (none.never out.n out.at)
        | inr too ↦ out.told ∙ ap InvalidLength (one_length_in layout bytes out.n too.n out.at too.at) ∙ sym too.told
      ]
    ]

-- no frame is at the front for one reason alone
pub one_end : (layout : Layout) (range : RangeCfg) (bytes : List ℕ) (a b : End) → LacksFrame layout range bytes a
    → LacksFrame layout range bytes b → a ≡ b
one_end layout range bytes Open Open p q = refl
one_end layout range bytes Open (Bad b) p q = absurd (open_or_bad layout range bytes b p q)
one_end layout range bytes (Bad a) Open p q = absurd (open_or_bad layout range bytes a q p)
one_end layout range bytes (Bad a) (Bad b) p q = ap Bad (one_bad layout range bytes a b p q)

-- a frame is at the front of its bytes, so it is false that none is
pub stands : (layout : Layout) (range : RangeCfg) (frame : Parts) (more : List ℕ) (end : End) → CanFollow layout range frame
    → LacksFrame layout range (frame_written layout frame ++ more) end → ⊥
unfolding IsBad
stands layout range frame more Open admitted h =
    let here = length-in_front layout range frame more admitted in
    let whole = length-append (frame_written layout frame) more in
    let long = frame_long layout frame admitted.before admitted.after in
    elim h [
      | inl opened ↦ opened.0 (length frame.body + layout.counts) here
      | inr (n, (at, inside), few) ↦
          let same : n ≡ length frame.body + layout.counts =
          one_length_in layout (frame_written layout frame ++ more) n (length frame.body + layout.counts) at here in
          absurd (omega (arith, few, ap (frame_size layout) same, whole, long))
    ]
stands layout range frame more (Bad error) admitted h =
    let v = length frame.body + layout.counts in
    let here = length-in_front layout range frame more admitted in
    elim (bad layout range (frame_written layout frame ++ more) error h) [
      | inl none ↦ none.never v here
      | inr out ↦ in_and_out layout range (frame_written layout frame ++ more) v error here
          (admits_written layout range (length frame.body) admitted.inside) out
    ]

-- ---- the frames of a text, and what is at the front

-- a text without a frame at the front has none
pub none_in_front : (layout : Layout) (range : RangeCfg) (old : List ℕ) (end now : End) (frames : List Parts) (rest : List ℕ)
    → LacksFrame layout range old now → IsFramed layout range old frames end rest → (frames ≡ []) × (end ≡ now)
none_in_front layout range old end now [] rest h is =
    (refl, one_end layout range rest end now is.ends (subst (λ (xs : List ℕ). LacksFrame layout range xs now) is.whole h))
none_in_front layout range old end now (f ∷ fs) rest h is =
    let front : old ≡ frame_written layout f ++ (all_written layout fs ++ rest) =
    is.whole ∙ append_assoc (frame_written layout f) (all_written layout fs) rest in
    let (admitted, others) = is.admitted in
    absurd (stands layout range f (all_written layout fs ++ rest) now admitted
    (subst (λ (xs : List ℕ). LacksFrame layout range xs now) front h))

-- a frame at the front is the first
pub first_is : (layout : Layout) (range : RangeCfg) (old new : List ℕ) (body : Parts) (end : End) (frames : List Parts) (rest : List ℕ)
    → CanFollow layout range body → old ≡ frame_written layout body ++ new → IsFramed layout range old frames end rest
    → FirstTaken layout range frames end rest body new
first_is layout range old new body end [] rest admitted e is =
    absurd (stands layout range body new end admitted (subst (λ (xs : List ℕ). LacksFrame layout range xs end) (sym is.whole ∙ e) is.ends))
first_is layout range old new body end (f ∷ fs) rest admitted e is =
    let (first, others) = is.admitted in
    let whole : old ≡ frame_written layout f ++ (all_written layout fs ++ rest) =
    is.whole ∙ append_assoc (frame_written layout f) (all_written layout fs) rest in
    let (same, behind) = one_front layout range body f new (all_written layout fs ++ rest) admitted first (sym e ∙ whole) in record {
      others = fs;
      first = ap (λ first. first ∷ fs) (sym same);
      behind = record { whole = behind; admitted = others; ends = is.ends };
    }

-- ---- beginnings, and what is bad

-- a beginning of a frame is open
pub begins_open : (layout : Layout) → BeginningsAreOpen layout
begins_open layout range frame front back admitted whole some =
    let v = length frame.body + layout.counts in
    let at : IsLengthIn layout (front ++ back) v =
    subst (λ (xs : List ℕ). IsLengthIn layout xs v) (append-nil (frame_written layout frame) ∙ whole)
    (length-in_front layout range frame [] admitted) in
    elim (some_length layout.prefix (drop layout.before front)) [
      | inl (n, found) ↦
          let same : n ≡ v = one_length_in layout (front ++ back) n v (length-later_in layout front back n found) at in
          inr (
            v,
            (subst (λ m. IsLengthIn layout front m) same found, admits_written layout range (length frame.body) admitted.inside),
            omega (arith, some, length-append front back, frame_long layout frame admitted.before admitted.after, ap length whole),
          )
      | inr none ↦ elim (may_be_open layout.prefix (drop layout.before front)) [
        | inl opened ↦ inl (none, opened)
        | inr closed ↦ absurd ((closed_stays_in layout front back none closed).0 v at)
      ]
    ]

-- bad bytes stay bad, whatever follows them
pub stays_bad : (layout : Layout) → BadStaysBad layout
stays_bad layout range bytes more EndOfBuffer h = absurd h
stays_bad layout range bytes more InvalidVarint h = closed_stays_in layout bytes more h.0 h.1
stays_bad layout range bytes more (InvalidLength n) h = (length-later_in layout bytes more n h.0, h.1)
stays_bad layout range bytes more Memory h = absurd h
stays_bad layout range bytes more BadLayout h = absurd h
stays_bad layout range bytes more TooLong h = absurd h

-- an error of taking the first frame stays, whatever bytes follow
pub first_stays : (T : Type 0) (gives : Parts → T → Type 0) (needs : Parts
    → Type 0) (layout : Layout) (range : RangeCfg) (bytes left more : List ℕ) (error : Error)
    → Takes gives needs layout range bytes (Err error) left
    → Takes gives needs layout range (bytes ++ more) (Err error) (left ++ more)
first_stays T gives needs layout range bytes left more EndOfBuffer h = absurd h.0
first_stays T gives needs layout range bytes left more InvalidVarint (bad, same, is) =
    (stays_bad layout range bytes more InvalidVarint bad, ap (λ w. w ++ more) same, is)
first_stays T gives needs layout range bytes left more (InvalidLength n) (bad, same) =
    (stays_bad layout range bytes more (InvalidLength n) bad, ap (λ w. w ++ more) same)
first_stays T gives needs layout range bytes left more Memory (has, same) = (
  record {
    frame = has.frame;
    more = has.more ++ more;
    admitted = has.admitted;
    whole = ap (λ w. w ++ more) has.whole ∙ append_assoc (frame_written layout has.frame) has.more more;
    needed = has.needed;
  },
  ap (λ w. w ++ more) same,
)
first_stays T gives needs layout range bytes left more BadLayout h = absurd h.0
first_stays T gives needs layout range bytes left more TooLong h = absurd h.0

-- nothing may go on
pub nothing_is_open : (layout : Layout) (range : RangeCfg) → LacksFrame layout range [] Open
nothing_is_open layout range = inl (nothing_open_in layout [] (omega arith))

-- ---- frames in order

-- lists of frames are written in order
pub written-append : (layout : Layout) (fs gs : List Parts)
    → all_written layout (fs ++ gs) ≡ all_written layout fs ++ all_written layout gs
written-append layout [] gs = refl
written-append layout (f ∷ fs) gs = ap (λ xs. frame_written layout f ++ xs) (written-append layout fs gs)
    ∙ sym (append_assoc (frame_written layout f) (all_written layout fs) (all_written layout gs))

-- one more frame is written after the others
pub written-push : (layout : Layout) (fs : List Parts) (body : Parts)
    → all_written layout (fs ++ body ∷ []) ≡ all_written layout fs ++ frame_written layout body
written-push layout fs body = written-append layout fs (body ∷ [])
    ∙ ap (λ xs. all_written layout fs ++ xs) (append-nil (frame_written layout body))

-- one more that can follow
pub one_more : (layout : Layout) (range : RangeCfg) (fs : List Parts) (body : Parts) → CanFollow layout range body
    → CanAllFollow layout range fs
    → CanAllFollow layout range (fs ++ body ∷ [])
one_more layout range [] body fits fine = (fits, tt)
one_more layout range (f ∷ fs) body fits fine = (fine.0, one_more layout range fs body fits fine.1)
