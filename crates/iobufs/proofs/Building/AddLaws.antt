-- A view put after others; an empty one changes nothing.
use Rattle.iobufs.proofs.Text.{AreFull, AreFull-append, AreViews, AreViews-append, IsView, List, MarkedText, View, [], ap, append-nil, append-push, append_assoc, arith, by_lt, common_steps, default_text, eq-eqb, flat_map-append, fold, if◌then◌else◌, joined, length, length-append, length-bytes, nat_tests, not_zero, of_pieces, of_pieces-one, pieces_bytes, refl, subst, sym, text_append, text_glue, text_len, ◌++◌, ◌+◌, ◌<◌, ◌==◌, ◌∙◌, ◌∷◌, ◌≡◌, ◌≤◌}

-- no chunks make the empty text
pub of_pieces-none : of_pieces [] ≡ default_text
unfolding of_pieces
of_pieces-none = refl

-- a view is put after others, or it is empty and they stay
pub added-by : {A : Type 0} (vs ws : List View) (v : View) → ws ≡ (if length v.bytes == 0 then vs else vs ++ v ∷ [])
    → (0 < length v.bytes → ws ≡ vs ++ v ∷ [] → A) → (length v.bytes ≡ 0 → ws ≡ vs → A) → A
added-by vs ws v is more same =
    by_lt 0 (length v.bytes) (λ h. more h (is ∙ rw (not_zero (length v.bytes) h) refl))
    (λ h. let none : length v.bytes ≡ 0 = omega arith in same none (is ∙ rw (eq-eqb (length v.bytes) 0 none) refl))

-- a view after full views
pub add-full : (vs ws : List View) (v : View) → ws ≡ (if length v.bytes == 0 then vs else vs ++ v ∷ []) → AreFull vs → AreFull ws
add-full vs ws v is full =
    added-by vs ws v is (λ h e. subst AreFull (sym e) (AreFull-append vs (v ∷ []) full (h, tt))) (λ h e. subst AreFull (sym e) full)

-- where views have room for their bytes and so has one more, they have it with that one after them, or without it where it is empty
pub add-views : (vs ws : List View) (v : View) → ws ≡ (if length v.bytes == 0 then vs else vs ++ v ∷ []) → AreViews vs → IsView v
    → AreViews ws
add-views vs ws v is all view =
    added-by vs ws v is (λ h e. subst AreViews (sym e) (AreViews-append vs (v ∷ []) all (view, tt))) (λ h e. subst AreViews (sym e) all)

-- full chunks with a view after them, but without it where it is empty, make their text with the view appended
pub add-text : (vs ws : List View) (v : View) → ws ≡ (if length v.bytes == 0 then vs else vs ++ v ∷ []) → AreFull vs
    → of_pieces ws ≡ text_append (of_pieces vs) v
add-text vs ws v is full =
    added-by vs ws v is (λ h e. ap of_pieces e ∙ pushed vs full h)
    (λ h e. let kept : text_append (of_pieces vs) v ≡ of_pieces vs = rw (eq-eqb (length v.bytes) 0 h) refl in ap of_pieces e ∙ sym kept)
  where
    pushed : (vs : List View) → AreFull vs → 0 < length v.bytes → of_pieces (vs ++ v ∷ []) ≡ text_append (of_pieces vs) v
    pushed [] full some =
        of_pieces-one v ∙ sym (ap (λ (t : MarkedText). text_append t v) of_pieces-none ∙ rw (not_zero (length v.bytes) some) refl)
    pushed (w ∷ ws) full some = sym (append-push w ws v (omega (arith, full.0, length-bytes w ws)) some)

-- how many views there are with this one after others, and how many bytes
pub record IsAdded (vs ws : List View) (v : View) : Type 0 where
  pub at_least : length vs ≤ length ws
  pub at_most : length ws ≤ length vs + 1
  pub bytes : length (pieces_bytes ws) ≡ length (pieces_bytes vs) + length v.bytes

-- a view after others, but not where it is empty, adds its bytes to theirs, and at most one to their number
pub add-length : (vs ws : List View) (v : View) → ws ≡ (if length v.bytes == 0 then vs else vs ++ v ∷ []) → IsAdded vs ws v
add-length vs ws v is =
    added-by vs ws v is (λ h e.
    let n = length-append vs (v ∷ []) in
    let l = ap (λ (xs : List View). length xs) e in
    let b = ap (λ (xs : List View). length (pieces_bytes xs)) e ∙ ap length (flat_map-append (λ (x : View). x.bytes) vs (v ∷ []))
    ∙ length-append (pieces_bytes vs) (v.bytes ++ []) in
    let z = ap length (append-nil v.bytes) in
    record { at_least = omega arith; at_most = omega arith; bytes = omega arith })
    (λ h e.
    let l = ap (λ (xs : List View). length xs) e in
    let b = ap (λ (xs : List View). length (pieces_bytes xs)) e in
    record { at_least = omega arith; at_most = omega arith; bytes = omega arith })

-- full views, joined one by one
full-joined : (ws vs : List View) → AreFull ws → AreFull vs → of_pieces (ws ++ vs) ≡ fold text_append (of_pieces ws) vs
full-joined ws [] some full = ap of_pieces (append-nil ws)
full-joined ws (v ∷ vs) some full =
    let more : ws ++ v ∷ [] ≡ (if length v.bytes == 0 then ws else ws ++ v ∷ []) = rw (not_zero (length v.bytes) full.0) refl in
    cc (
      append_assoc ws (v ∷ []) vs,
      full-joined (ws ++ v ∷ []) vs (add-full ws (ws ++ v ∷ []) v more some) full.1,
      add-text ws (ws ++ v ∷ []) v more some,
    )

-- full chunks make the text that joining them makes
pub of_pieces-joined : (vs : List View) → AreFull vs → of_pieces vs ≡ joined vs
of_pieces-joined vs full = full-joined [] vs tt full ∙ ap (λ (t : MarkedText). fold text_append t vs) of_pieces-none

-- a buffer adds at most its bytes
pub len-append : (text : MarkedText) (view : View) → text_len (text_append text view) ≤ text_len text + length view.bytes
unfolding text_glue
len-append text view = grind (arith, nat_tests, common_steps, length-append)
