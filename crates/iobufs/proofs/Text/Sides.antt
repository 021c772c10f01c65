-- A text after a view: its sides, and the mark at a place.
use Rattle.iobufs.proofs.Text.Known.{Bool, List, Mark, MarkedText, View, [], ap, append_assoc, arith, bytes_mark, cond, drop-append-le, drop_past, false, filter, key_upto, le-leb, le-ltb, length-append, length-drop, lt-leb, lt-ltb, map, map-append, mark_after, mark_past, moved_down, moved_up, nat_eq, nat_le, nat_lt, native_mark, of_view, refl, static_mark, sym, take-append-le, take_past, tests, text_glue, text_left, text_right, true, view_advanced, view_front, view_len, ℕ, ◌+◌, ◌-◌, ◌<◌, ◌∙◌, ◌∷◌, ◌≡◌, ◌≤◌}

pub up_up : (m n : ℕ) (es : List (ℕ × Mark)) → map (moved_up m) (map (moved_up n) es) ≡ map (moved_up (m + n)) es
up_up m n [] = refl
up_up m n (e ∷ es) = let h = up_up m n es in let k : m + (n + e.0) ≡ m + n + e.0 = omega arith in cc

-- joining is associative: the first two of three byte strings, or the last two, may be joined first
pub glue_assoc : (x y z : MarkedText) → text_glue (text_glue x y) z ≡ text_glue x (text_glue y z)
unfolding text_glue
glue_assoc x y z =
    simp (length-append, append_assoc, map-append, up_up)

-- two functions agree on a conditional if they agree on both of its branches
pub both : {A B C : Type 0} (f : A → C) (g : B → C) (b : Bool) (x y : A) (v w : B) → f x ≡ g v → f y ≡ g w → f (cond b x y) ≡ g (cond b v w)
both f g true x y v w p q = p
both f g false x y v w p q = q

pub lt_up : (at n k : ℕ) → n ≤ at → nat_lt at (n + k) ≡ nat_lt (at - n) k
lt_up at n k l = grind (arith, tests)

pub lt_up_left : (at n k : ℕ) → n ≤ at → nat_lt (n + k) at ≡ nat_lt k (at - n)
lt_up_left at n k l = grind (arith, tests)

-- a key moved up is at most a place exactly where the key is at most the place moved down
pub le_up : (at n k : ℕ) → n ≤ at → nat_le (n + k) at ≡ nat_le k (at - n)
le_up at n k l = grind (arith, tests)

-- every key is at least n
abbrev pub FromOn : ℕ → List (ℕ × Mark) → Type 0
FromOn n [] = Unit {0}
FromOn n (e ∷ es) = (n ≤ e.0) × FromOn n es

-- cuts moved up by n stand at n or after it
pub from_on-up : (n : ℕ) (es : List (ℕ × Mark)) → FromOn n (map (moved_up n) es)
from_on-up n [] = tt
from_on-up n (e ∷ es) = (omega arith, from_on-up n es)

pub below_all : (at n : ℕ) (es : List (ℕ × Mark)) → FromOn n es → at ≤ n → filter (λ e. nat_lt e.0 at) es ≡ []
below_all at n [] h l = refl
below_all at n (e ∷ es) h l = let ih = below_all at n es h.1 l in grind (arith, tests)

pub above_all : (at n : ℕ) (es : List (ℕ × Mark)) → FromOn n es → at < n → filter (λ e. nat_lt at e.0) es ≡ es
above_all at n [] h l = refl
above_all at n (e ∷ es) h l = let ih = above_all at n es h.1 l in grind (arith, tests)

-- at a place before all cuts the last key is the one before them
pub upto_none : (at n : ℕ) (k : ℕ × Mark) (es : List (ℕ × Mark)) → FromOn n es → at < n → key_upto k es at ≡ k
upto_none at n k [] h l = refl
upto_none at n k (e ∷ es) h l = let ih = upto_none at n k es h.1 l in grind (arith, tests)

pub down_up : (at n : ℕ) (es : List (ℕ × Mark)) → at ≤ n → map (moved_down at) (map (moved_up n) es) ≡ map (moved_up (n - at)) es
down_up at n [] l = refl
down_up at n (e ∷ es) l = let h = down_up at n es l in let k : n + e.0 - at ≡ n - at + e.0 = omega arith in cc

pub filter_up : (at n : ℕ) (es : List (ℕ × Mark)) → n ≤ at
    → map (moved_down at) (filter (λ e. nat_lt at e.0) (map (moved_up n) es)) ≡ map (moved_down (at - n))
    (filter (λ e. nat_lt (at - n) e.0) es)
filter_up at n [] l = refl
filter_up at n (e ∷ es) l =
    let k : n + e.0 - at ≡ e.0 - (at - n) = omega arith in
    let ih = filter_up at n es l in
    rw (lt_up at n e.0 l) (both (map (moved_down at)) (map (moved_down (at - n))) (nat_lt (at - n) e.0) _ _ _ _ (cc) ih)

pub filter_up_left : (at n : ℕ) (es : List (ℕ × Mark)) → n ≤ at
    → filter (λ e. nat_lt e.0 at) (map (moved_up n) es) ≡ map (moved_up n) (filter (λ e. nat_lt e.0 (at - n)) es)
filter_up_left at n [] l = refl
filter_up_left at n (e ∷ es) l =
    let ih = filter_up_left at n es l in
    rw (lt_up_left at n e.0 l) (both (λ x. x) (map (moved_up n)) (nat_lt e.0 (at - n)) _ _ _ _ (cc) ih)

-- keys moved up have as their last key up to a place the one that they had up to the place moved down, moved up
pub upto_up : (at n : ℕ) (k : ℕ × Mark) (es : List (ℕ × Mark)) → n ≤ at
    → key_upto (moved_up n k) (map (moved_up n) es) at ≡ moved_up n (key_upto k es (at - n))
upto_up at n k [] l = refl
upto_up at n k (e ∷ es) l =
    rw (le_up at n e.0 l) (both (λ x. x) (moved_up n) (nat_le e.0 (at - n)) _ _ _ _ (upto_up at n e es l) (upto_up at n k es l))

pub mark_up : (at n : ℕ) (k : ℕ × Mark) (es : List (ℕ × Mark)) → n ≤ at
    → mark_past (key_upto (moved_up n k) (map (moved_up n) es) at) at ≡ mark_past (key_upto k es (at - n)) (at - n)
mark_up at n k es l =
    let f = key_upto k es (at - n) in
    let d : at - (n + f.0) ≡ at - n - f.0 = omega arith in
    rw (upto_up at n k es l, d)

-- a number less 0 is that number
pub no_sub : (n : ℕ) → n - 0 ≡ n
no_sub n = omega arith

pub same_text : (s t : MarkedText) → s.bytes ≡ t.bytes → s.mark ≡ t.mark → s.cuts ≡ t.cuts → s ≡ t
same_text s t p q r = λ i. record { bytes = p i; mark = q i; cuts = r i }

-- one view
pub right-of_view : (at : ℕ) (v : View) → text_right (of_view v) at ≡ of_view (view_advanced v at)
unfolding text_right
right-of_view at v = rw (no_sub at)

-- the left side of a view's text is the text of its front
pub left-of_view : (at : ℕ) (v : View) → text_left (of_view v) at ≡ of_view (view_front v at)
unfolding text_left
left-of_view at v = refl

-- a number above 0 isn't equal to 0
pub not_zero : (n : ℕ) → 0 < n → nat_eq n 0 ≡ false
not_zero n l = grind (arith, tests)

-- a view, with more after it
pub right-glue_within : (at : ℕ) (v : View) (y : MarkedText) → at < view_len v
    → text_right (text_glue (of_view v) y) at ≡ text_glue (of_view (view_advanced v at)) y
unfolding text_right text_glue
right-glue_within at v y l =
    let f = from_on-up (view_len v) y.cuts in
    same_text _ _
    (drop-append-le at v.bytes y.bytes (omega arith))
    (rw (lt-leb (view_len v) at l, upto_none at (view_len v) (0, v.mark) _ f l, no_sub at))
    (rw (lt-ltb at (view_len v) l, above_all at (view_len v) _ f l, down_up at (view_len v) y.cuts (omega arith), (length-drop at v.bytes)))

-- from a place after a view's bytes on stands what the text after the view has from there on
pub right-glue_past : (at : ℕ) (v : View) (y : MarkedText) → view_len v ≤ at
    → text_right (text_glue (of_view v) y) at ≡ text_right y (at - view_len v)
unfolding text_right text_glue
right-glue_past at v y l =
    let u = mark_up at (view_len v) (0, y.mark) y.cuts l in
    let z : view_len v + 0 ≡ view_len v = omega arith in
    same_text _ _
    (drop_past at v.bytes y.bytes l)
    (rw (le-leb (view_len v) at l) (ap (λ z. mark_past (key_upto (z, y.mark) (map (moved_up (view_len v)) y.cuts) at) at) (sym z) ∙ u))
    (rw (le-ltb at (view_len v) l) (filter_up at (view_len v) y.cuts l))

-- up to a place within a view or at its end stands its front
pub left-glue_within : (at : ℕ) (v : View) (y : MarkedText) → at ≤ view_len v
    → text_left (text_glue (of_view v) y) at ≡ of_view (view_front v at)
unfolding text_left text_glue
left-glue_within at v y l =
    same_text _ _
    (take-append-le at v.bytes y.bytes l)
    refl
    (rw (le-ltb (view_len v) at l) (below_all at (view_len v) _ (from_on-up (view_len v) y.cuts) l))

-- up to a place after a view's end stand the view and what the text after it has up to there
pub left-glue_past : (at : ℕ) (v : View) (y : MarkedText) → view_len v < at
    → text_left (text_glue (of_view v) y) at ≡ text_glue (of_view v) (text_left y (at - view_len v))
unfolding text_left text_glue
left-glue_past at v y l =
    let l' : view_len v ≤ at = omega arith in
    same_text _ _
    (take_past at v.bytes y.bytes l')
    refl
    (rw (lt-ltb (view_len v) at l, filter_up_left at (view_len v) y.cuts l'))

-- a number that is less fails the test of equality
pub not_eq : (m n : ℕ) → m < n → nat_eq m n ≡ false
not_eq m n e = grind (arith, tests)

-- views with the same bytes and the same mark are the same
pub same_view : (v w : View) → v.bytes ≡ w.bytes → v.mark ≡ w.mark → v ≡ w
same_view v w p q = λ i. record { bytes = p i; mark = q i }

-- a mark moved on by 0 bytes is the same
pub mark_after-zero : (m : Mark) → mark_after 0 m ≡ m
mark_after-zero static_mark = refl
mark_after-zero bytes_mark = refl
mark_after-zero (native_mark r) = rw (no_sub r)
