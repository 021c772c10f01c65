-- Room for the bytes of chunks (`AreViews`), also on either side of a place; with it the text that they make is well formed (`IsMarked`).
use Rattle.iobufs.proofs.Text.Known.{All, AreCuts, AreViews, IsMarked, IsPieces, IsView, List, Mark, ReachesEnd, View, [], arith, by_lt, bytes_mark, cond_both, default_view, left_pieces, length, length-append, length-drop, length-take, map, mark_after, moved_up, nat_eq, native_mark, of_pieces, pieces_bytes, rest_pieces, right_pieces, static_mark, suc, take, text_glue, text_len, view_front, view_len, zero, ℕ, ◌++◌, ◌+◌, ◌-◌, ◌∷◌, ◌≡◌, ◌≤◌}
use Rattle.iobufs.proofs.Text.PieceLaws.{IsPieces-from_full, left_pieces-past, left_pieces-within, len-of_pieces, length-bytes, right_pieces-past, right_pieces-within}
use Rattle.iobufs.proofs.Text.Sides.{no_sub}

pub AreCuts-up : (n k : ℕ) (m : Mark) (es : List (ℕ × Mark)) (end : ℕ) → AreCuts k m es end
    → AreCuts (n + k) m (map (moved_up n) es) (n + end)
AreCuts-up n k m [] end h = let d : n + end - (n + k) ≡ end - k = omega arith in rw d h
AreCuts-up n k m (e ∷ es) end (is, others) =
    let d : n + e.0 - (n + k) ≡ e.0 - k = omega arith in
    (record { rises = omega (arith, is.rises); below = omega (arith, is.below); room = rw d is.room }, AreCuts-up n e.0 e.1 es end others)

pub IsMarked-of_pieces : (v : View) (vs : List View) → IsPieces (v ∷ vs) → All IsView (v ∷ vs) → IsMarked (of_pieces (v ∷ vs))
unfolding of_pieces text_glue
IsMarked-of_pieces v [] p h = rw (no_sub (view_len v)) (h 0 v (omega arith))
IsMarked-of_pieces v (w ∷ vs) (first, behind) h =
    let y = of_pieces (w ∷ vs) in
    let s = len-of_pieces (w ∷ vs) in
    let n = length-bytes w vs in
    let e : length (v.bytes ++ y.bytes) ≡ view_len v + text_len y = length-append v.bytes y.bytes in
    let r : ReachesEnd v.mark (view_len v) = h 0 v (omega arith) in
    let up : AreCuts (view_len v + 0) y.mark (map (moved_up (view_len v)) y.cuts) (view_len v + text_len y) =
    AreCuts-up (view_len v) 0 y.mark y.cuts (text_len y)
    (IsMarked-of_pieces w vs (IsPieces-from_full w vs behind) (λ k d l. h (suc k) d (omega arith))) in
    let z : view_len v + 0 ≡ view_len v = omega arith in
    let end : AreCuts (view_len v) y.mark (map (moved_up (view_len v)) y.cuts) (length (v.bytes ++ y.bytes)) = rw e (rw z at up) in
    (record { rises = omega (arith, first); below = omega (arith, behind.0); room = rw (no_sub (view_len v)) r }, end)

-- the room of the chunks
pub HasRoom-on : (m : Mark) (n k : ℕ) → ReachesEnd m n → ReachesEnd (mark_after k m) (n - k)
HasRoom-on static_mark n k h = tt
HasRoom-on bytes_mark n k h = tt
HasRoom-on (native_mark r) n k h = omega arith

pub HasRoom-less : (m : Mark) (n k : ℕ) → k ≤ n → ReachesEnd m n → ReachesEnd m k
HasRoom-less static_mark n k l h = tt
HasRoom-less bytes_mark n k l h = tt
HasRoom-less (native_mark r) n k l h = omega arith

pub IsView-front : (at : ℕ) (v : View) → IsView v → IsView (view_front v at)
IsView-front at v h = HasRoom-less v.mark (view_len v) (length (take at v.bytes)) (omega (arith, length-take at v.bytes)) h

-- where chunks have room for their bytes and so have those after them, all have
pub AreViews-append : (vs ws : List View) → AreViews vs → AreViews ws → AreViews (vs ++ ws)
AreViews-append [] ws f g = g
AreViews-append (v ∷ vs) ws f g = (f.0, AreViews-append vs ws f.1 g)

-- where chunks have room for their bytes, so have those from a place on
pub AreViews-right : (at : ℕ) (vs : List View) → AreViews vs → AreViews (right_pieces vs at)
AreViews-right at [] f = tt
AreViews-right at (v ∷ vs) f =
    by_lt at (view_len v) (λ h. rw (right_pieces-within at v vs h)
    ((rw (length-drop at v.bytes) (HasRoom-on v.mark (view_len v) at f.0)), f.1))
    (λ h. rw (right_pieces-past at v vs h) (AreViews-right (at - view_len v) vs f.1))

-- where chunks have room for their bytes, so have those that are left without the first bytes
pub AreViews-rest : (n : ℕ) (vs : List View) → AreViews vs → AreViews (rest_pieces vs n)
AreViews-rest n vs f =
    cond_both (nat_eq n (length (pieces_bytes vs))) (default_view ∷ []) (right_pieces vs n) AreViews (λ _. (tt, tt))
    (λ _. AreViews-right n vs f)

-- where chunks have room for their bytes, so have those up to a place
pub AreViews-left : (at : ℕ) (vs : List View) → AreViews vs → AreViews (left_pieces vs at)
AreViews-left at [] f = tt
AreViews-left at (v ∷ vs) f =
    by_lt 0 at (λ p.
    by_lt at (view_len v) (λ h. rw (left_pieces-within at v vs p h) (IsView-front at v f.0, tt))
    (λ h. rw (left_pieces-past at v vs p h) (f.0, AreViews-left (at - view_len v) vs f.1)))
    (λ p. let z : at ≡ 0 = omega arith in rw z tt)

-- chunks with room for their bytes, one or several of which none is empty, make a well formed text
pub IsMarked-from_views : (vs : List View) → IsPieces vs → AreViews vs → IsMarked (of_pieces vs)
IsMarked-from_views [] p h = absurd p
IsMarked-from_views (v ∷ vs) p h = IsMarked-of_pieces v vs p (at_each (v ∷ vs) h)
  where
    at_each : (vs : List View) → AreViews vs → All IsView vs
    at_each [] h k d l = absurd (omega arith)
    at_each (v ∷ vs) h zero d l = h.0
    at_each (v ∷ vs) h (suc k) d l = at_each vs h.1 k d (omega arith)
