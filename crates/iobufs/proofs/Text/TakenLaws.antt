-- Bytes taken as one view.
use Rattle.iobufs.proofs.Text.Known.{List, Mark, MarkedText, View, [], and-false, ap, append-nil, arith, by_lt, cond, default_view, false, filter, key_upto, le-ltb, length, list_any, lt-leb, lt-ltb, map, mark_past, moved_down, nat_eq, nat_lt, native_mark, of_pieces, pieces_bytes, refl, sym, take, take-append-le, taken_view, tests, text_glue, text_right, true, view_front, view_len, zero-add, ℕ, ◌&&◌, ◌++◌, ◌+◌, ◌-◌, ◌<◌, ◌∙◌, ◌∷◌, ◌≡◌, ◌≤◌}
use Rattle.iobufs.proofs.Text.PieceLaws.{bytes-of_pieces, mark-of_pieces}
use Rattle.iobufs.proofs.Text.Sides.{FromOn, from_on-up, mark_after-zero, not_zero, same_view, upto_none}

-- a cut is inside the first n bytes of the right side exactly if one is inside the n bytes after the offset
pub any_down : (skip n : ℕ) (es : List (ℕ × Mark))
    → list_any (λ e. nat_lt 0 e.0 && nat_lt e.0 n) (map (moved_down skip) (filter (λ e. nat_lt skip e.0) es))
    ≡ list_any (λ e. nat_lt skip e.0 && nat_lt e.0 (skip + n)) es
any_down skip n [] = refl
any_down skip n (e ∷ es) =
    let ih = any_down skip n es in
    by_lt skip e.0 (λ h.
    let b : nat_lt (e.0 - skip) n ≡ nat_lt e.0 (skip + n) = grind (arith, tests) in
    rw (lt-ltb skip e.0 h, lt-ltb 0 (e.0 - skip) (omega arith), b, ih))
    (λ h. rw (le-ltb skip e.0 h) ih)

pub upto_zero : (skip : ℕ) (k : ℕ × Mark) (es : List (ℕ × Mark))
    → key_upto k (map (moved_down skip) (filter (λ e. nat_lt skip e.0) es)) 0 ≡ k
upto_zero skip k [] = refl
upto_zero skip k (e ∷ es) =
    let ih = upto_zero skip k es in
    by_lt skip e.0 (λ h. rw (lt-ltb skip e.0 h, lt-leb (e.0 - skip) 0 (omega arith)) ih) (λ h. rw (le-ltb skip e.0 h) ih)

-- no bytes are taken as the default view
pub taken_view-none : (skip : ℕ) (t : MarkedText) → taken_view t skip 0 ≡ default_view
unfolding taken_view
taken_view-none skip t = refl

-- bytes from a place on are taken as the first ones of its right side
pub taken_view-right : (skip n : ℕ) (t : MarkedText) → taken_view t skip n ≡ taken_view (text_right t skip) 0 n
unfolding taken_view text_right
taken_view-right skip n t =
    let m = mark_past (key_upto (0, t.mark) t.cuts skip) skip in
    let any : list_any (λ e. nat_lt 0 e.0 && nat_lt e.0 (0 + n)) (text_right t skip).cuts ≡ list_any
    (λ e. nat_lt skip e.0 && nat_lt e.0 (skip + n)) t.cuts =
    rw (zero-add n) (any_down skip n t.cuts) in
    let at_front : mark_past (key_upto (0, m) (text_right t skip).cuts 0) 0 ≡ m = cc (upto_zero skip (0, m) t.cuts, mark_after-zero m) in
    ap (λ v. cond (nat_eq n 0) default_view v)
    (same_view _ _ refl (sym (rw (any, at_front))))

pub any_from_on : (at n : ℕ) (es : List (ℕ × Mark)) → FromOn at es → n ≤ at → list_any (λ e. nat_lt 0 e.0 && nat_lt e.0 n) es ≡ false
any_from_on at n [] f l = refl
any_from_on at n (e ∷ es) f l =
    let h : nat_lt e.0 n ≡ false = le-ltb e.0 n (omega arith) in rw (h, and-false (nat_lt 0 e.0)) (any_from_on at n es f.1 l)

-- all cuts between chunks are at the end of the first chunk or after it
pub from_on-of_pieces : (v : View) (vs : List View) → FromOn (view_len v) (of_pieces (v ∷ vs)).cuts
unfolding of_pieces text_glue
from_on-of_pieces v [] = tt
from_on-of_pieces v (w ∷ vs) = (omega arith, from_on-up (view_len v) (of_pieces (w ∷ vs)).cuts)

-- the first n bytes are taken as a prefix of the first view, if that contains them
pub taken_view-within : (n : ℕ) (v : View) (vs : List View) → 0 < n → n ≤ view_len v → taken_view (of_pieces (v ∷ vs)) 0 n ≡ view_front v n
unfolding taken_view
taken_view-within n v vs p l =
    let t = of_pieces (v ∷ vs) in
    let f = from_on-of_pieces v vs in
    let any : list_any (λ e. nat_lt 0 e.0 && nat_lt e.0 (0 + n)) t.cuts ≡ false = rw (zero-add n) (any_from_on (view_len v) n t.cuts f l) in
    let front : mark_past (key_upto (0, t.mark) t.cuts 0) 0 ≡ v.mark =
    ap (λ (k : ℕ × Mark). mark_past k 0) (upto_none 0 (view_len v) (0, t.mark) t.cuts f (omega arith)) ∙ mark_after-zero t.mark
    ∙ mark-of_pieces v vs in
    rw (not_zero n p)
    (same_view _ _ (ap (take n) (bytes-of_pieces (v ∷ vs)) ∙ take-append-le n v.bytes (pieces_bytes vs) l) (rw any front))

pub cut-of_pieces : (v : View) (vs : List View) (n : ℕ) → 0 < view_len v → view_len v < n → n ≤ length (pieces_bytes (v ∷ vs))
    → list_any (λ e. nat_lt 0 e.0 && nat_lt e.0 (0 + n)) (of_pieces (v ∷ vs)).cuts ≡ true
unfolding of_pieces text_glue
cut-of_pieces v [] n p l e = let k : length (v.bytes ++ []) ≡ view_len v = ap length (append-nil v.bytes) in absurd (omega arith)
cut-of_pieces v (w ∷ vs) n p l e = rw (lt-ltb 0 (view_len v) p, lt-ltb (view_len v) (0 + n) (omega arith))

-- the first n bytes are taken as native bytes of exact capacity, if the first view contains fewer
pub taken_view-across : (n : ℕ) (v : View) (vs : List View) → 0 < view_len v → view_len v < n → n ≤ length (pieces_bytes (v ∷ vs))
    → taken_view (of_pieces (v ∷ vs)) 0 n ≡ record { bytes = take n (pieces_bytes (v ∷ vs)); mark = native_mark n }
unfolding taken_view
taken_view-across n v vs p l e =
    rw (not_zero n (omega arith))
    (same_view _ _ (ap (take n) (bytes-of_pieces (v ∷ vs))) (rw (cut-of_pieces v vs n p l e)))
