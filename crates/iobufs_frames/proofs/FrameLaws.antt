-- The frames of a text: there is one list of them, and it grows with the text at its end alone.
use Rattle.std.proofs.Common.{◌≡◌, ◌⊎◌, inl, inr, ℕ, ◌+◌, ◌<◌, Bool, true, false, None, Some, Result, Ok, Err, OnOk, List, [], ◌∷◌, ◌++◌, length, drop, zero, suc, ap, sym, subst, ◌∙◌, refl, arith, append_assoc, length-append}
use Rattle.std.proofs.lemmas.List.{append-nil, map-append, nil_from_length}
use Rattle.iobufs_core.proofs.LengthFacts.{less}
use Rattle.iobufs_core.specs.View.{View}
use Rattle.iobufs_core.specs.MarkedText.{MarkedText, text_append}
use Rattle.iobufs_core.specs.declared.codec.base.Error.{Error}
use Rattle.iobufs_core.specs.declared.codec.base.Error.TheVariants.{EndOfBuffer, InvalidVarint, InvalidLength, Memory, BadLayout, TooLong}
use Rattle.iobufs_core.specs.declared.codec.base.RangeCfg.{RangeCfg}
use Rattle.iobufs_core.specs.declared.codec.base.Refused.{Refused}
use Rattle.iobufs.proofs.Joined.{bytes-append}
use Rattle.iobufs.specs.Refusals.{Adds}
use Rattle.iobufs_frames.proofs.FrameFacts.{first_is, first_stays, none_in_front, nothing_is_open, one_end, one_more, stands, stays_bad, written-push}
use Rattle.iobufs_frames.specs.Frames.{AreSameFrames, AreMoved, BareIsPrefixed, BeginsWith, CanAllFollow, CanFollow, FirstIsRead, FirstIsTaken, HasBodies, HasFrame, HasFrames, HaveOneReading, IsFramed, LacksFrame, Parts, Takes, TakesFirst, all_written, bodies, frame_written, is_any}
use Rattle.iobufs_frames.proofs.LayoutFacts.{admitted, cut_at, follows, frame_long, one_front, parts_at}
use Rattle.iobufs_frames.proofs.PrefixFacts.{may_be_open, prefix_long, some_length}
use Rattle.iobufs_frames.specs.Prefixes.{HasNoLengthIn, IsLengthIn, admits, frame_size, prefix_written}
use Rattle.iobufs_frames.specs.declared.End.{End}
use Rattle.iobufs_frames.specs.declared.End.TheVariants.{Open, Bad}
use Rattle.iobufs_frames.specs.declared.error.FrameError.TheVariants.{Cut, Frame, Io}
use Rattle.iobufs_frames.specs.declared.lengths.Layout.{Layout}
use Rattle.iobufs_frames.specs.declared.lengths.Prefix.{Prefix}

-- ---- one list of frames

framed_once : (layout : Layout) (range : RangeCfg) (text : List ℕ) (fs gs : List Parts) (a b : End) (x y : List ℕ)
    → text ≡ all_written layout fs ++ x → CanAllFollow layout range fs → LacksFrame layout range x a
    → text ≡ all_written layout gs ++ y → CanAllFollow layout range gs → LacksFrame layout range y b
    → AreSameFrames fs gs a b x y
framed_once layout range text [] [] a b x y e p h e' q h' =
    let same : x ≡ y = sym e ∙ e' in
    record {
      same_frames = refl;
      same_end = one_end layout range y a b (subst (λ (xs : List ℕ). LacksFrame layout range xs a) same h) h';
      same_rest = same;
    }
framed_once layout range text [] (g ∷ gs) a b x y e p h e' q h' =
    let front : x ≡ frame_written layout g ++ (all_written layout gs ++ y) = sym e ∙ e'
    ∙ append_assoc (frame_written layout g) (all_written layout gs) y in
    absurd (stands layout range g (all_written layout gs ++ y) a q.0 (subst (λ (xs : List ℕ). LacksFrame layout range xs a) front h))
framed_once layout range text (f ∷ fs) [] a b x y e p h e' q h' =
    let front : y ≡ frame_written layout f ++ (all_written layout fs ++ x) = sym e' ∙ e
    ∙ append_assoc (frame_written layout f) (all_written layout fs) x in
    absurd (stands layout range f (all_written layout fs ++ x) b p.0 (subst (λ (xs : List ℕ). LacksFrame layout range xs b) front h'))
framed_once layout range text (f ∷ fs) (g ∷ gs) a b x y e (fits, p) h e' (fits', q) h' =
    let left : text ≡ frame_written layout f ++ (all_written layout fs ++ x) = e
    ∙ append_assoc (frame_written layout f) (all_written layout fs) x in
    let right : text ≡ frame_written layout g ++ (all_written layout gs ++ y) = e'
    ∙ append_assoc (frame_written layout g) (all_written layout gs) y in
    let (first, behind) = one_front layout range f g (all_written layout fs ++ x) (all_written layout gs ++ y) fits fits'
    (sym left ∙ right) in
    let others = framed_once layout range (all_written layout fs ++ x) fs gs a b x y refl p h behind q h' in record {
      same_frames = ap (λ body. body ∷ fs) first ∙ ap (λ more. g ∷ more) others.same_frames;
      same_end = others.same_end;
      same_rest = others.same_rest;
    }

-- any two readings of a text are the same
pub one_reading : (layout : Layout) → HaveOneReading layout
one_reading layout range text fs gs a b x y p q =
    framed_once layout range text fs gs a b x y p.whole p.admitted p.ends q.whole q.admitted q.ends

shorter : (layout : Layout) (range : RangeCfg) (frame : Parts) (old new : List ℕ) → CanFollow layout range frame
    → old ≡ frame_written layout frame ++ new → length new < length old
shorter layout range frame old new admitted e =
    omega (
      arith,
      prefix_long layout.prefix (length frame.body + layout.counts) admitted.small,
      ap (λ (xs : List ℕ). length xs) e,
      length-append (frame_written layout frame) new,
      frame_long layout frame admitted.before admitted.after,
    )

-- ---- each text has its frames

none_in : (layout : Layout) (range : RangeCfg) (text : List ℕ) → HasNoLengthIn layout text → (end : End) × LacksFrame layout range text end
none_in layout range text none = elim (may_be_open layout.prefix (drop layout.before text)) [
  | inl opened ↦ (Open, inl (none, opened))
  | inr closed ↦ (Bad InvalidVarint, (none, closed))
]

-- a frame is at the front, or there is a reason that none is
front_by : (layout : Layout) (range : RangeCfg) (text : List ℕ) (v : ℕ) (inside : Bool) → IsLengthIn layout text v
    → admits layout range v ≡ inside
    → HasFrame is_any layout range text ⊎ ((end : End) × LacksFrame layout range text end)
front_by layout range text v false at is = inr (Bad (InvalidLength v), (at, is))
front_by layout range text v true at is = elim (less (length text) (frame_size layout v)) [
  | inl few ↦ inr (Open, inr (v, (at, is), few))
  | inr enough ↦
      inl (record {
        frame = parts_at layout text v;
        more = drop (frame_size layout v) text;
        admitted = follows layout range text v at is enough;
        whole = (cut_at layout text v at (admitted layout range v is).0 enough).whole;
        needed = tt;
      })
]

front : (layout : Layout) (range : RangeCfg) (text : List ℕ) → HasFrame is_any layout range text ⊎ ((end : End)
    × LacksFrame layout range text end)
front layout range text = elim (some_length layout.prefix (drop layout.before text)) [
  | inl (v, at) ↦ front_by layout range text v (admits layout range v) at refl
  | inr none ↦ inr (none_in layout range text none)
]

-- frame by frame, each of which shortens what is left
framed_within : (layout : Layout) (range : RangeCfg) (fuel : ℕ) (text : List ℕ) → length text < fuel → HasFrames layout range text
framed_within layout range zero text enough = absurd (omega (arith, enough))
framed_within layout range (suc fuel) text enough =
    elim (front layout range text) [
      | inr (end, none) ↦ record { frames = []; end = end; rest = text; is = record { whole = refl; admitted = tt; ends = none } }
      | inl front ↦
          let others = framed_within layout range fuel front.more
          (omega (arith, enough, shorter layout range front.frame text front.more front.admitted front.whole)) in record {
            frames = front.frame ∷ others.frames;
            end = others.end;
            rest = others.rest;
            is = record {
              whole = front.whole ∙ ap (λ w. frame_written layout front.frame ++ w) others.is.whole
                  ∙ sym (append_assoc (frame_written layout front.frame) (all_written layout others.frames) others.rest);
              admitted = (front.admitted, others.is.admitted);
              ends = others.is.ends;
            };
          }
    ]

-- each text has frames, an end and a rest
pub framed : (layout : Layout) (range : RangeCfg) (text : List ℕ) → HasFrames layout range text
framed layout range text = framed_within layout range (suc (length text)) text (omega arith)

-- ---- one frame taken

first_wanted : (needs : Parts
    → Type 0) (layout : Layout) (range : RangeCfg) (old : List ℕ) (end : End) (frames : List Parts) (rest : List ℕ)
    → HasFrame needs layout range old → IsFramed layout range old frames end rest → BeginsWith needs frames
first_wanted needs layout range old end frames rest has is =
    let taken = first_is layout range old has.more has.frame end frames rest has.admitted has.whole is in
    record { frame = has.frame; others = taken.others; first = taken.first; needed = has.needed }

-- the next frame of a text is the first of its frames and leaves the others; where there is none, the answer is by the end
pub first_of_next : (T : Type 0) (gives : Parts → T → Type 0) (needs : Parts → Type 0) (layout : Layout) → FirstIsTaken T gives needs layout
first_of_next T gives needs layout range old new (Ok (Some taking)) (frame, taken, same) frames end rest is =
    (frame, first_is layout range old new frame end frames rest taken.admitted taken.whole is, same)
first_of_next T gives needs layout range old new (Ok None) h frames end rest is = none_in_front layout range old end Open frames rest h.0 is
first_of_next T gives needs layout range old new (Err EndOfBuffer) h frames end rest is = absurd h.0
first_of_next T gives needs layout range old new (Err InvalidVarint) h frames end rest is =
    none_in_front layout range old end (Bad InvalidVarint) frames rest h.0 is
first_of_next T gives needs layout range old new (Err (InvalidLength n)) h frames end rest is =
    none_in_front layout range old end (Bad (InvalidLength n)) frames rest h.0 is
first_of_next T gives needs layout range old new (Err Memory) h frames end rest is =
    first_wanted needs layout range old end frames rest h.0 is
first_of_next T gives needs layout range old new (Err BadLayout) h frames end rest is = absurd h.0
first_of_next T gives needs layout range old new (Err TooLong) h frames end rest is = absurd h.0

-- an error leaves all bytes
error_leaves : (T : Type 0) (gives : Parts → T → Type 0) (needs : Parts → Type 0) (layout : Layout) (range : RangeCfg) (bytes left : List ℕ)
    (error : Error) → Takes gives needs layout range bytes (Err error) left → left ≡ bytes
error_leaves T gives needs layout range bytes left EndOfBuffer h = h.1
error_leaves T gives needs layout range bytes left InvalidVarint h = h.1
error_leaves T gives needs layout range bytes left (InvalidLength n) h = h.1
error_leaves T gives needs layout range bytes left Memory h = h.1
error_leaves T gives needs layout range bytes left BadLayout h = h.1
error_leaves T gives needs layout range bytes left TooLong h = h.1

-- where a text has no frames, all of it is after them
all_after : (layout : Layout) (range : RangeCfg) (text : List ℕ) (frames : List Parts) (end : End) (rest : List ℕ)
    → IsFramed layout range text frames end rest → frames ≡ [] → text ≡ rest
all_after layout range text frames end rest is none = is.whole ∙ ap (λ fs. all_written layout fs ++ rest) none

-- what is read is the first of the frames of all bytes, whatever follow, and none after the end
pub first_of_read : (T : Type 0) (gives : Parts → T → Type 0) (needs : Parts → Type 0) (layout : Layout) → FirstIsRead T gives needs layout
first_of_read T gives needs layout range bytes left more (Ok (Some taking)) (frame, taken, same) frames end rest is = (
  frame,
  first_is layout range (bytes ++ more) (left ++ more) frame end frames rest taken.admitted
      (ap (λ w. w ++ more) taken.whole ∙ append_assoc (frame_written layout frame) left more) is,
  same,
)
first_of_read T gives needs layout range bytes left more (Ok None) (empty, gone, last) frames end rest is =
    let whole : bytes ++ more ≡ [] = ap (λ w. w ++ more) empty ∙ last in
    let (none, stopped) = none_in_front layout range (bytes ++ more) end Open frames rest
    (subst (λ (w : List ℕ). LacksFrame layout range w Open) (sym whole) (nothing_is_open layout range)) is in
    (none, sym (all_after layout range (bytes ++ more) frames end rest is none) ∙ whole, ap (λ w. w ++ more) gone ∙ last)
first_of_read T gives needs layout range bytes left more (Err Cut) ((open_front, same), some, last) frames end rest is =
    let whole : bytes ++ more ≡ bytes = ap (λ w. bytes ++ w) last ∙ append-nil bytes in
    let (none, stopped) = none_in_front layout range (bytes ++ more) end Open frames rest
    (subst (λ (w : List ℕ). LacksFrame layout range w Open) (sym whole) open_front) is in
    let after : bytes ++ more ≡ rest = all_after layout range (bytes ++ more) frames end rest is none in
    (none, stopped, subst (λ (w : List ℕ). 0 < length w) (sym whole ∙ after) some, ap (λ w. w ++ more) same ∙ after)
first_of_read T gives needs layout range bytes left more (Err (Frame error)) h frames end rest is =
    let later = first_stays T gives needs layout range bytes left more error h in (
      first_of_next T gives needs layout range (bytes ++ more) (left ++ more) (Err error) later frames end rest is,
      subst (λ (w : List ℕ). IsFramed layout range w frames end rest)
          (sym (error_leaves T gives needs layout range (bytes ++ more) (left ++ more) error later)) is,
    )
first_of_read T gives needs layout range bytes left more (Err (Io error)) ((lacks, same), cause) frames end rest is =
    (subst (λ (w : List ℕ). IsFramed layout range w frames end rest) (ap (λ w. w ++ more) (sym same)) is, cause)

-- a bare frame is a length and a body
pub bare_prefixed : (prefix : Prefix) → BareIsPrefixed prefix
bare_prefixed prefix range frame fits =
    let n = length frame.body in
    let w = prefix_written prefix in
    ap (λ xs. (xs ++ (w (n + 0) ++ frame.after)) ++ frame.body) (nil_from_length frame.before fits.before)
    ∙ ap (λ xs. (w (n + 0) ++ xs) ++ frame.body) (nil_from_length frame.after fits.after)
    ∙ ap (λ xs. xs ++ frame.body) (append-nil (w (n + 0))) ∙ ap (λ k. w k ++ frame.body) (omega arith)

-- ---- bytes put after

-- where a piece was appended to a text, its bytes follow those of the text
pub fed : (old new : MarkedText) (piece : View) (result : Result (Unit {0}) (Refused View))
    → Adds (text_append old piece) old piece result new → OnOk result (new.bytes ≡ old.bytes ++ piece.bytes)
fed old new piece (Ok done) added = ap (λ (t : MarkedText). t.bytes) added.0 ∙ bytes-append old piece
fed old new piece (Err refused) is = tt

-- ---- frames found in order

-- a frame that is taken from the front of a text follows those that went before it, and the text is shorter
pub moved_one : (layout : Layout) (range : RangeCfg) (old new : List ℕ) (body : View) (views more : List View)
    → TakesFirst layout range old (Ok (Some body)) new → more ≡ views ++ body ∷ []
    → AreMoved layout range (bodies views) old (bodies more) new × (length new < length old)
moved_one layout range old new body views more (frame, taken, same) e =
    let listed : bodies more ≡ bodies views ++ body.bytes ∷ [] = ap bodies e ∙ map-append (λ (v : View). v.bytes) views (body ∷ []) in (
      λ fs told.
          let written : all_written layout (fs ++ frame ∷ []) ≡ all_written layout fs ++ frame_written layout frame =
          written-push layout fs frame in (
            fs ++ frame ∷ [],
            map-append (λ (f : Parts). f.body) fs (frame ∷ []) ∙ ap (λ bs. bs ++ frame.body ∷ []) told
                ∙ ap (λ b. bodies views ++ b ∷ []) same ∙ sym listed,
            ap (λ xs. all_written layout fs ++ xs) taken.whole
                ∙ sym (append_assoc (all_written layout fs) (frame_written layout frame) new) ∙ ap (λ xs. xs ++ new) (sym written),
            λ fine. one_more layout range fs frame taken.admitted fine,
          ),
      shorter layout range frame old new taken.admitted taken.whole,
    )

-- frames that went over in two steps went over
pub moved_on : (layout : Layout) (range : RangeCfg) (a b c : List (List ℕ)) (x y z : List ℕ) → AreMoved layout range a x b y
    → AreMoved layout range b y c z → AreMoved layout range a x c z
moved_on layout range a b c x y z first second = λ fs told.
    let (gs, had, whole, fine) = first fs told in
    let (hs, has, then, good) = second gs had in
    (hs, has, whole ∙ then, λ is. good (fine is))

-- none went
pub moved_none : (layout : Layout) (range : RangeCfg) (a : List (List ℕ)) (x : List ℕ) → AreMoved layout range a x a x
moved_none layout range a x = λ fs told. (fs, told, refl, λ is. is)

-- where frames went over from the front of a text's rest, they are the text's
pub moved_framed : (layout : Layout) (range : RangeCfg) (text old new more : List ℕ) (had has : List (List ℕ)) (stop end : End)
    → HasBodies layout range text had stop old → AreMoved layout range had (old ++ more) has new → LacksFrame layout range new end
    → HasBodies layout range (text ++ more) has end new
moved_framed layout range text old new more had has stop end framed moved ends =
    let (fs, told, whole, fine) = moved framed.frames framed.told in record {
      frames = fs;
      told = told;
      is = record {
        whole = ap (λ xs. xs ++ more) framed.is.whole ∙ append_assoc (all_written layout framed.frames) old more ∙ whole;
        admitted = fine framed.is.admitted;
        ends = ends;
      };
    }

-- ---- a text in pieces

-- an open end isn't bad
pub open_is_not_bad : (error : Error) → Open ≡ Bad error → ⊥
open_is_not_bad error e = cc

-- before anything was fed there is no frame, and an open front
pub start : (layout : Layout) (range : RangeCfg) (views : List View) (rest : List ℕ) → views ≡ [] → rest ≡ []
    → HasBodies layout range [] (bodies views) Open rest
start layout range views rest none empty =
    record {
      frames = [];
      told = ap bodies (sym none);
      is = record {
        whole = sym empty;
        admitted = tt;
        ends = subst (λ (xs : List ℕ). LacksFrame layout range xs Open) (sym empty) (nothing_is_open layout range);
      };
    }

-- a piece after a bad front changes the rest alone
pub fed_bad : (layout : Layout) (range : RangeCfg) (text piece rest new : List ℕ) (bodies : List (List ℕ)) (end : End) (error : Error)
    → HasBodies layout range text bodies end rest → end ≡ Bad error
    → new ≡ rest ++ piece → HasBodies layout range (text ++ piece) bodies end new
fed_bad layout range text piece rest new bodies end error framed bad e =
    let frames = framed.frames in
    record {
      frames = frames;
      told = framed.told;
      is = record {
        whole = ap (λ xs. xs ++ piece) framed.is.whole ∙ append_assoc (all_written layout frames) rest piece
            ∙ ap (λ xs. all_written layout frames ++ xs) (sym e);
        admitted = framed.is.admitted;
        ends =
            subst (λ (xs : List ℕ). LacksFrame layout range xs end) (sym e)
            (subst (λ (d : End). LacksFrame layout range (rest ++ piece) d) (sym bad)
            (stays_bad layout range rest piece error (subst (λ (d : End). LacksFrame layout range rest d) bad framed.is.ends)));
      };
    }
