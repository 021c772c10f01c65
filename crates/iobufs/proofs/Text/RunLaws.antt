-- Views joined one by one, as an iterator gives them.
use Rattle.iobufs.proofs.Text.Known.{BufError, IsRefusedAt, List, MarkedText, Memory, None, Option, Run, Some, TooLong, View, Yields, [], ap, arith, cond, false, joined, length, length-append, nat_lt, refl, run, sym, text_append, text_len, to_end, to_item, true, ◌++◌, ◌+◌, ◌<◌, ◌^◌, ◌∙◌, ◌∷◌, ◌≡◌}
use Rattle.iobufs.proofs.Joined.{bytes-append}
use Rattle.iobufs.proofs.Text.JoinLaws.{joined-push}

abbrev pub run_to_end : {S A : Type 0} (steps : S → Option A → S → Type 0) (s : S) (xs : List A) {t u : S} → Yields steps s xs t
    → steps t None u → Run steps
run_to_end steps s xs {t} {u} ran e = run steps s xs true (to_end steps s xs (u, (t, ran, e)))

abbrev pub run_to_item : {S A : Type 0} (steps : S → Option A → S → Type 0) (s : S) (xs : List A) {t u : S} → Yields steps s xs t → (x : A)
    → steps t (Some x) u → Run steps
run_to_item steps s xs {t} {u} ran x e = run steps s (xs ++ x ∷ []) false (to_item steps s u xs x (t, ran, e))

length-more : (views : List View) (view : View) (t : MarkedText) → t ≡ joined views
    → text_len (joined (views ++ view ∷ [])) ≡ text_len t + length view.bytes
length-more views view t e = cc (joined-push views view, bytes-append (joined views) view, length-append (joined views).bytes view.bytes)

-- a view with bytes after views with bytes, joined so far, is refused as too long where all don't fit a number, else for a failed
-- allocation
pub refused-at : (views : List View) (view : View) (t : MarkedText) (cause : BufError) → t ≡ joined views → text_len t < 2 ^ 64
    → 0 < text_len t
    → 0 < length view.bytes → cause ≡ cond (nat_lt (text_len t + length view.bytes) (2 ^ 64)) Memory TooLong
    → IsRefusedAt (views ++ view ∷ []) cause
refused-at views view t cause e fits some more told =
    let n = length-more views view t e in
    let same = ap text_len e in
    record {
      front = views;
      last = view;
      views_are = refl;
      some = omega arith;
      fits = omega arith;
      more = more;
      told = told ∙ ap (λ total. cond (nat_lt total (2 ^ 64)) Memory TooLong) (sym n);
    }

-- a text with a view appended fits a number where their lengths together do
pub fits-more : (t u : MarkedText) (view : View) → u ≡ text_append t view → text_len t + length view.bytes < 2 ^ 64 → text_len u < 2 ^ 64
fits-more t u view a fits =
    let n = ap text_len a ∙ ap length (bytes-append t view) ∙ length-append t.bytes view.bytes in
    omega arith
