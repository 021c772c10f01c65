-- Which marked text a list of chunks makes (`of_pieces`): its bytes, mark, cuts and two sides; and the chunks on either side of a place.
use Rattle.iobufs.proofs.Text.Known.{AreFull, IsPieces, List, MarkedText, View, [], ap, append-nil, arith, by_lt, cases_order, default_text, default_view, drop, eq-eqb, false, is_single, le-ltb, left_pieces, length, length-append, length-drop, length-map, length-take-le, lt-ltb, moved_up, nat_eq, of_pieces, of_view, pieces_bytes, refl, rest_pieces, right_pieces, suc, sym, take, take_all, tests, text_advanced, text_glue, text_left, text_len, text_rest, text_right, text_split_front, true, view_advanced, view_front, view_len, zero, ℕ, ⊎_elim, ◌++◌, ◌+◌, ◌-◌, ◌<◌, ◌∙◌, ◌∷◌, ◌≡◌, ◌≤◌, ◌⊎◌}
use Rattle.iobufs.proofs.Text.Sides.{glue_assoc, left-glue_past, left-glue_within, left-of_view, mark_after-zero, not_eq, not_zero, right-glue_past, right-glue_within, right-of_view, same_view}

-- a chunk before others makes its view's text with theirs after it
pub of_pieces-cons : (v w : View) (vs : List View) → of_pieces (v ∷ w ∷ vs) ≡ text_glue (of_view v) (of_pieces (w ∷ vs))
unfolding of_pieces
of_pieces-cons v w vs = refl

-- one chunk makes its view's text
pub of_pieces-one : (v : View) → of_pieces (v ∷ []) ≡ of_view v
unfolding of_pieces
of_pieces-one v = refl

-- the text of chunks has their bytes
pub bytes-of_pieces : (vs : List View) → (of_pieces vs).bytes ≡ pieces_bytes vs
unfolding of_pieces text_glue
bytes-of_pieces [] = refl
bytes-of_pieces (v ∷ []) = sym (append-nil v.bytes)
bytes-of_pieces (v ∷ w ∷ vs) = ap (λ t. v.bytes ++ t) (bytes-of_pieces (w ∷ vs))

-- the text of chunks has a cut for each chunk but the first
pub cuts-of_pieces : (v : View) (vs : List View) → length (of_pieces (v ∷ vs)).cuts ≡ length vs
unfolding of_pieces text_glue
cuts-of_pieces v [] = refl
cuts-of_pieces v (w ∷ vs) = ap suc (length-map (of_pieces (w ∷ vs)).cuts (moved_up (view_len v)) ∙ cuts-of_pieces w vs)

-- chunks before others make their text with that of the others after it
pub of_pieces-append : (v w : View) (vs ws : List View)
    → of_pieces ((v ∷ vs) ++ (w ∷ ws)) ≡ text_glue (of_pieces (v ∷ vs)) (of_pieces (w ∷ ws))
unfolding of_pieces
of_pieces-append v w [] ws = refl
of_pieces-append v w (u ∷ us) ws = cc (of_pieces-append u w us ws, glue_assoc (of_view v) (of_pieces (u ∷ us)) (of_pieces (w ∷ ws)))

-- from a place within the first chunk on stand that chunk advanced, and the others
pub right_pieces-within : (at : ℕ) (v : View) (vs : List View) → at < view_len v → right_pieces (v ∷ vs) at ≡ view_advanced v at ∷ vs
right_pieces-within at v vs l = rw (lt-ltb at (view_len v) l)

-- from a place after the bytes of the first chunk on stands what the others have from there on
pub right_pieces-past : (at : ℕ) (v : View) (vs : List View) → view_len v ≤ at
    → right_pieces (v ∷ vs) at ≡ right_pieces vs (at - view_len v)
right_pieces-past at v vs l = rw (le-ltb at (view_len v) l)

-- up to place 0 stands no chunk
pub left_pieces-none : (vs : List View) → left_pieces vs 0 ≡ []
left_pieces-none [] = refl
left_pieces-none (v ∷ vs) = refl

-- up to a place within the first chunk stands its front
pub left_pieces-within : (at : ℕ) (v : View) (vs : List View) → 0 < at → at < view_len v → left_pieces (v ∷ vs) at ≡ view_front v at ∷ []
left_pieces-within at v vs p l = rw (not_zero at p, lt-ltb at (view_len v) l)

-- up to the end of the first chunk, or a place after it, stand that chunk and what the others have up to there
pub left_pieces-past : (at : ℕ) (v : View) (vs : List View) → 0 < at → view_len v ≤ at
    → left_pieces (v ∷ vs) at ≡ v ∷ left_pieces vs (at - view_len v)
left_pieces-past at v vs p l = rw (not_zero at p, le-ltb at (view_len v) l)

-- up to the end of the first chunk, where that has bytes, stands that chunk
pub left_pieces-first : (at : ℕ) (v : View) (vs : List View) → 0 < at → at ≡ view_len v → left_pieces (v ∷ vs) at ≡ v ∷ []
left_pieces-first at v vs p e =
    left_pieces-past at v vs p (omega arith) ∙ ap (λ m. v ∷ left_pieces vs m) (omega arith) ∙ ap (λ x. v ∷ x) (left_pieces-none vs)

-- the front of a view up to its end, or after it, is the view
pub front-all : (at : ℕ) (v : View) → view_len v ≤ at → view_front v at ≡ v
front-all at v l = same_view _ _ (take_all at v.bytes l) refl

-- the bytes of chunks are as many as those of the first and of the others
pub length-bytes : (v : View) (vs : List View) → length (pieces_bytes (v ∷ vs)) ≡ view_len v + length (pieces_bytes vs)
length-bytes v vs = length-append v.bytes (pieces_bytes vs)

-- the right side of a place below the end is the text of the chunks from there on
pub right-of_pieces : (at : ℕ) (vs : List View) → at < length (pieces_bytes vs)
    → text_right (of_pieces vs) at ≡ of_pieces (right_pieces vs at)
right-of_pieces at [] l = absurd (omega arith)
right-of_pieces at (v ∷ []) l =
    rw (of_pieces-one v, right_pieces-within at v [] (omega (arith, ap length (append-nil v.bytes))), of_pieces-one (view_advanced v at))
    (right-of_view at v)
right-of_pieces at (v ∷ w ∷ vs) l =
    rw (of_pieces-cons v w vs)
    (by_lt at (view_len v) (λ h. rw (right_pieces-within at v (w ∷ vs) h, of_pieces-cons (view_advanced v at) w vs)
    (right-glue_within at v (of_pieces (w ∷ vs)) h))
    (λ h. rw (right_pieces-past at v (w ∷ vs) h)
    (right-glue_past at v (of_pieces (w ∷ vs)) h ∙ right-of_pieces (at - view_len v) (w ∷ vs) (omega (arith, length-bytes v (w ∷ vs))))))

-- a first view, and others after it
pub record HasFirst (vs : List View) : Type 0 where
  pub first : View
  pub others : List View
  pub is : vs ≡ first ∷ others

pub left_pieces-some : (at : ℕ) (v : View) (vs : List View) → 0 < at → HasFirst (left_pieces (v ∷ vs) at)
left_pieces-some at v vs p =
    by_lt at (view_len v) (λ h. record { first = view_front v at; others = []; is = left_pieces-within at v vs p h })
    (λ h. record { first = v; others = left_pieces vs (at - view_len v); is = left_pieces-past at v vs p h })

pub of_pieces-more : (v : View) (vs : List View) → HasFirst vs → of_pieces (v ∷ vs) ≡ text_glue (of_view v) (of_pieces vs)
of_pieces-more v vs some = rw some.is (of_pieces-cons v some.first some.others)

-- three cases of a place against a length
pub order3 : {A : Type 0} (m n : ℕ) → (m < n → A) → (m ≡ n → A) → (n < m → A) → A
order3 m n a b c = ⊎_elim b (λ h. ⊎_elim a c h) (cases_order m n)

pub left-of_pieces : (at : ℕ) (vs : List View) → 0 < at → at ≤ length (pieces_bytes vs)
    → text_left (of_pieces vs) at ≡ of_pieces (left_pieces vs at)
left-of_pieces at [] p l = absurd (omega arith)
left-of_pieces at (v ∷ []) p l =
    let n : length (v.bytes ++ []) ≡ view_len v = ap length (append-nil v.bytes) in
    order3 at (view_len v)
    (λ h. rw (of_pieces-one v, left_pieces-within at v [] p h, of_pieces-one (view_front v at)) (left-of_view at v))
    (λ h. rw (left_pieces-first at v [] p h, of_pieces-one v) (left-of_view at v ∙ ap of_view (front-all at v (omega arith))))
    (λ h. absurd (omega arith))
left-of_pieces at (v ∷ w ∷ vs) p l =
    let n = length-bytes v (w ∷ vs) in
    rw (of_pieces-cons v w vs)
    (order3 at (view_len v)
    (λ h. rw (left_pieces-within at v (w ∷ vs) p h, of_pieces-one (view_front v at))
    (left-glue_within at v (of_pieces (w ∷ vs)) (omega arith)))
    (λ h. rw (left_pieces-first at v (w ∷ vs) p h, of_pieces-one v)
    (left-glue_within at v (of_pieces (w ∷ vs)) (omega arith) ∙ ap of_view (front-all at v (omega arith))))
    (λ h. rw (
      left_pieces-past at v (w ∷ vs) p (omega arith),
      of_pieces-more v (left_pieces (w ∷ vs) (at - view_len v))
          (left_pieces-some (at - view_len v) w vs (omega arith)),
    )
    (left-glue_past at v (of_pieces (w ∷ vs)) h ∙ ap (text_glue (of_view v))
    (left-of_pieces (at - view_len v) (w ∷ vs) (omega arith) (omega arith)))))

-- the text of chunks is as long as their bytes
pub len-of_pieces : (vs : List View) → text_len (of_pieces vs) ≡ length (pieces_bytes vs)
len-of_pieces vs = ap length (bytes-of_pieces vs)

-- the chunks of a text that has bytes are full
pub AreFull-from_pieces : (vs : List View) → IsPieces vs → 0 < length (pieces_bytes vs) → AreFull vs
AreFull-from_pieces [] p l = tt
AreFull-from_pieces (v ∷ []) p l = let n : length (v.bytes ++ []) ≡ view_len v = ap length (append-nil v.bytes) in (omega arith, tt)
AreFull-from_pieces (v ∷ w ∷ vs) p l = p

-- one or more chunks of which none is empty are as the code keeps them
pub IsPieces-from_full : (v : View) (vs : List View) → AreFull (v ∷ vs) → IsPieces (v ∷ vs)
IsPieces-from_full v [] f = tt
IsPieces-from_full v (w ∷ vs) f = f

-- where no chunk is empty, nor one of those after them, none of all is
pub AreFull-append : (vs ws : List View) → AreFull vs → AreFull ws → AreFull (vs ++ ws)
AreFull-append [] ws f g = g
AreFull-append (v ∷ vs) ws f g = (f.0, AreFull-append vs ws f.1 g)

-- where no chunk is empty, none of the first ones is
pub full-run : (m : ℕ) (vs : List View) → AreFull vs → AreFull (take m vs)
full-run zero vs full = tt
full-run (suc m) [] full = tt
full-run (suc m) (v ∷ vs) full = (full.0, full-run m vs full.1)

-- where no chunk is empty, none of those after the first ones is
pub full-behind : (i : ℕ) (vs : List View) → AreFull vs → AreFull (drop i vs)
full-behind zero vs full = full
full-behind (suc i) [] full = tt
full-behind (suc i) (v ∷ vs) full = full-behind i vs full.1

-- where no chunk is empty, none is of those from a place below the end on, and there is one
pub AreFull-right : (at : ℕ) (vs : List View) → AreFull vs → at < length (pieces_bytes vs)
    → AreFull (right_pieces vs at) × (0 < length (right_pieces vs at))
AreFull-right at [] f l = absurd (omega arith)
AreFull-right at (v ∷ vs) f l =
    let n = length-bytes v vs in
    let m : length (drop at v.bytes) ≡ view_len v - at = length-drop at v.bytes in
    by_lt at (view_len v) (λ h. rw (right_pieces-within at v vs h) ((omega arith, f.1), omega arith))
    (λ h. rw (right_pieces-past at v vs h) (AreFull-right (at - view_len v) vs f.1 (omega arith)))

-- where no chunk is empty, none is of those up to a place
pub AreFull-left : (at : ℕ) (vs : List View) → AreFull vs → AreFull (left_pieces vs at)
AreFull-left at [] f = tt
AreFull-left at (v ∷ vs) f =
    by_lt 0 at (λ p.
    by_lt at (view_len v) (λ h. let m : length (take at v.bytes) ≡ at =
    length-take-le at v.bytes (omega arith) in rw (left_pieces-within at v vs p h) (omega arith, tt))
    (λ h. rw (left_pieces-past at v vs p h) (f.0, AreFull-left (at - view_len v) vs f.1)))
    (λ p. let z : at ≡ 0 = omega arith in rw z tt)

-- the text of chunks has the mark of the first
pub mark-of_pieces : (v : View) (vs : List View) → (of_pieces (v ∷ vs)).mark ≡ v.mark
unfolding of_pieces text_glue
mark-of_pieces v [] = refl
mark-of_pieces v (w ∷ vs) = refl

-- a split at the end of a text with bytes leaves the default text
pub rest-all : (at : ℕ) (t : MarkedText) → 0 < at → at ≡ text_len t → text_rest t at ≡ default_text
rest-all at t p e = rw (not_zero at p, eq-eqb at (text_len t) e)

pub rest-inside : (at : ℕ) (t : MarkedText) → 0 < at → at < text_len t → text_rest t at ≡ text_right t at
rest-inside at t p l = rw (not_zero at p, not_eq at (text_len t) l)

pub split_front-inside : (at : ℕ) (t : MarkedText) → 0 < at → at < text_len t → text_split_front t at ≡ text_left t at
split_front-inside at t p l = rw (not_zero at p, not_eq at (text_len t) l)

-- a split inside leaves the text of the chunks from there on
pub rest-of_pieces : (at : ℕ) (vs : List View) → 0 < at → at < length (pieces_bytes vs)
    → text_rest (of_pieces vs) at ≡ of_pieces (right_pieces vs at)
rest-of_pieces at vs p l = let s = len-of_pieces vs in rest-inside at (of_pieces vs) p (omega arith) ∙ right-of_pieces at vs l

-- a split inside answers the text of the chunks up to there
pub split_front-of_pieces : (at : ℕ) (vs : List View) → 0 < at → at < length (pieces_bytes vs)
    → text_split_front (of_pieces vs) at ≡ of_pieces (left_pieces vs at)
split_front-of_pieces at vs p l = let s = len-of_pieces vs in split_front-inside at (of_pieces vs) p (omega arith)
    ∙ left-of_pieces at vs p (omega arith)

-- the text of chunks is single exactly where there is none after the first
pub is_single-of_pieces : (v : View) (vs : List View) → is_single (of_pieces (v ∷ vs)) ≡ nat_eq (length vs) 0
is_single-of_pieces v vs = ap (λ n. nat_eq n 0) (cuts-of_pieces v vs)

pub advanced_view-none : (v : View) → view_advanced v 0 ≡ v
advanced_view-none v = same_view _ _ refl (mark_after-zero v.mark)

-- where some bytes stay, they are those from there on
pub rest_pieces-inside : (n : ℕ) (vs : List View) → n < length (pieces_bytes vs) → rest_pieces vs n ≡ right_pieces vs n
rest_pieces-inside n vs l = rw (differs n (length (pieces_bytes vs)) l) refl
  where
    differs : (n m : ℕ) → n < m → nat_eq n m ≡ false
    differs n m l = grind (arith, tests)

-- where all bytes go, the default view is left
pub rest_pieces-all : (n : ℕ) (vs : List View) → n ≡ length (pieces_bytes vs) → rest_pieces vs n ≡ default_view ∷ []
rest_pieces-all n vs e = rw (same n (length (pieces_bytes vs)) e) refl
  where
    same : (n m : ℕ) → n ≡ m → nat_eq n m ≡ true
    same n m e = grind (arith, tests)

-- where no chunk is empty, those from place 0 on are all
pub right_pieces-none : (vs : List View) → AreFull vs → right_pieces vs 0 ≡ vs
right_pieces-none [] f = refl
right_pieces-none (v ∷ vs) f = right_pieces-within 0 v vs f.0 ∙ ap (λ w. w ∷ vs) (advanced_view-none v)

-- the one view of a text without cuts, also where it is drained
pub advanced-of_view : (n : ℕ) (v : View) → n ≤ view_len v → text_advanced (of_view v) n ≡ of_view (view_advanced v n)
advanced-of_view n v l =
    ⊎_elim
    (λ (h : n ≡ view_len v). rw (eq-eqb n (view_len v) h) (right-of_view n v))
    (λ (h : (n < view_len v) ⊎ (view_len v < n)).
    ⊎_elim
    (λ (k : n < view_len v). rw (not_eq n (view_len v) k)
    (by_lt 0 n (λ z. rw (not_zero n z) (right-of_view n v))
    (λ z. let e : n ≡ 0 = omega arith in rw e (ap of_view (sym (advanced_view-none v))))))
    (λ (k : view_len v < n). absurd (omega arith))
    h)
    (cases_order n (view_len v))

pub bytes-text_left : (at : ℕ) (t : MarkedText) → (text_left t at).bytes ≡ take at t.bytes
unfolding text_left
bytes-text_left at t = refl

-- the chunks before a place have the bytes before it
pub bytes-left : (at : ℕ) (vs : List View) → 0 < at → at ≤ length (pieces_bytes vs)
    → pieces_bytes (left_pieces vs at) ≡ take at (pieces_bytes vs)
bytes-left at vs p l = cc (
  bytes-of_pieces (left_pieces vs at),
  left-of_pieces at vs p l,
  bytes-text_left at (of_pieces vs),
  bytes-of_pieces vs,
)
