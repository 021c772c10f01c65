-- Values are read back as they were written, and no encoding of one is a prefix of another's.
--     bytes_one, number_one            no two bodies, and no two numbers, are written at the front of equal bytes
--     bytes_front, length_front,       what was read, written again, is at the front
--     number_front
--     number_codec, length_codec,      numbers, lengths, `Bytes` and views are read back as they were written
--     bytes_codec, view_codec
--     bytes-dropped, left_behind       what remains after written bytes once they are dropped
use Rattle.std.proofs.Common.{◌≡◌, ℕ, ◌+◌, ◌^◌, ◌<◌, ◌≤◌, true, Ok, List, [], ◌∷◌, ◌++◌, length, take, drop, ap, sym, subst, ◌∙◌, refl, arith, append_assoc, length-append, length-drop}
use Rattle.std.proofs.Math.Seq.{take-append_seam}
use Rattle.std.proofs.lemmas.List.{take_at, append_cancel_left, drop-drop, drop_at}
use Rattle.iobufs_core.specs.Dropping.{Dropping, by_advance, by_copy, dropped, dropped_len}
use Rattle.iobufs_core.specs.MarkedText.{MarkedText, taken_view, text_advanced, text_rest}
use Rattle.iobufs_core.specs.Ranges.{in_range}
use Rattle.iobufs_core.specs.ReadBytes.{bytes-advanced, bytes-rest, bytes-taken_view, view_there}
use Rattle.iobufs_core.specs.ReadBack.{IsCodec}
use Rattle.iobufs_core.specs.ReadLaws.{IsNumberForm, bytes_back, length_back, number_back, view_back}
use Rattle.iobufs_core.specs.Spelled.{spell_begins}
use Rattle.iobufs_core.specs.Spelling.{spell}
use Rattle.iobufs_core.specs.View.{View}
use Rattle.iobufs_core.specs.Wire.{IsLengthRead, IsViewRead, IsBytesRead, IsNumberRead, bytes_written, view_written}
use Rattle.iobufs_core.specs.declared.codec.base.RangeCfg.{RangeCfg}

-- ---- bytes after their length

pub bytes_one : (xs ys u v : List ℕ) → length xs < 2 ^ 64 → length ys < 2 ^ 64 → bytes_written xs ++ u ≡ bytes_written ys ++ v → xs ≡ ys
bytes_one xs ys u v p q e =
    let k = length xs in
    let l = length ys in
    let whole : spell k ++ (xs ++ u) ≡ spell l ++ (ys ++ v) = sym (append_assoc (spell k) xs u) ∙ e ∙ append_assoc (spell l) ys v in
    let same : k ≡ l = spell_begins k l (xs ++ u) (ys ++ v) p q whole in
    let behind : xs ++ u ≡ ys ++ v = append_cancel_left (spell k) (xs ++ u) (ys ++ v) (whole ∙ ap (λ n. spell n ++ (ys ++ v)) (sym same)) in
    sym (take-append_seam xs u) ∙ ap (take k) behind ∙ take_at ys v k (sym same)

pub bytes_front : (text : MarkedText) (range : RangeCfg) (bytes : List ℕ) → IsBytesRead text range (Ok bytes)
    → ((length bytes < 2 ^ 64) × (in_range range (length bytes) ≡ true))
    × (take (length (bytes_written bytes)) text.bytes ≡ bytes_written bytes)
bytes_front text range bytes (n, there, is) =
    let view = taken_view text (length (spell n)) n in
    let found = view_there text n view there.0.0.1 there.1 refl in
    let same : view.bytes ≡ bytes = bytes-taken_view text (length (spell n)) n ∙ sym is in
    let len : n ≡ length bytes = sym found.long ∙ ap (λ xs. length xs) same in
    let k = length (view_written view) in
    let front : take k text.bytes ≡ view_written view = ap (take k) found.whole
    ∙ take-append_seam (view_written view) (drop k text.bytes) in
    let stands = subst (λ (xs : List ℕ). take (length (bytes_written xs)) text.bytes ≡ bytes_written xs) same front in
    ((subst (λ k. k < 2 ^ 64) len there.0.0.0, subst (λ k. in_range range k ≡ true) len there.0.1), stands)

-- ---- lengths

pub length_front : (bytes : List ℕ) (range : RangeCfg) (n : ℕ) → IsLengthRead bytes range (Ok n)
    → ((n < 2 ^ 64) × (in_range range n ≡ true)) × (take (length (spell n)) bytes ≡ spell n)
length_front bytes range n h = ((h.0.0, h.1), h.0.1)

-- ---- numbers

pub number_one : (written : ℕ → List ℕ) (size : ℕ) → IsNumberForm written size → (m n : ℕ) (u v : List ℕ)
    → m < 256 ^ size → n < 256 ^ size → written m ++ u ≡ written n ++ v → m ≡ n
number_one written size form m n u v p q e =
    form.one m n p q (sym (take_at (written m) u size (form.long m)) ∙ ap (take size) e ∙ take_at (written n) v size (form.long n))

pub number_front : (written : ℕ → List ℕ) (size : ℕ) → IsNumberForm written size → (bytes : List ℕ) (n : ℕ)
    → IsNumberRead written size bytes (Ok n)
    → (n < 256 ^ size) × (take (length (written n)) bytes ≡ written n)
number_front written size form bytes n h = (h.small, ap (λ k. take k bytes) (form.long n) ∙ sym h.is)

-- ---- the codecs

one_drop : (n : ℕ) → n + 0 ≡ n
one_drop n = omega arith

pub number_codec : (Cfg : Type 0) (written : ℕ → List ℕ) (size : ℕ) → IsNumberForm written size
    → IsCodec ℕ Cfg written (λ text _ answer. IsNumberRead written size text.bytes answer) (λ _. by_advance size ∷ []) (λ m n. m ≡ n)
    (λ _ n. n < 256 ^ size)
number_codec Cfg written size form = record {
  gives_back = λ n _ text rest answer ok e h. number_back written size n text.bytes rest answer form ok e h;
  same_written = λ m n e. ap written e;
  no_front = λ m n _ _ u v p q e. number_one written size form m n u v p q e;
  read_written = λ n _ text h. number_front written size form text.bytes n h;
  drops_written = λ n. one_drop size ∙ sym (form.long n);
}

pub length_codec : IsCodec ℕ RangeCfg spell (λ text range answer. IsLengthRead text.bytes range answer)
    (λ n. by_advance (length (spell n)) ∷ []) (λ m n. m ≡ n)
    (λ range n. (n < 2 ^ 64) × (in_range range n ≡ true))
length_codec = record {
  gives_back = λ n range text rest answer ok e h. length_back n range text.bytes rest answer ok.0 ok.1 e h;
  same_written = λ m n e. ap spell e;
  no_front = λ m n _ _ u v p q e. spell_begins m n u v p.0 q.0 e;
  read_written = λ n range text h. length_front text.bytes range n h;
  drops_written = λ n. one_drop (length (spell n));
}

pub bytes_codec : IsCodec (List ℕ) RangeCfg bytes_written IsBytesRead (λ bytes. by_copy (length (bytes_written bytes)) ∷ []) (λ x y. x ≡ y)
    (λ range bytes. (length bytes < 2 ^ 64) × (in_range range (length bytes) ≡ true))
bytes_codec = record {
  gives_back = λ bytes range text rest answer ok e h. bytes_back bytes range text rest answer ok.0 ok.1 e h;
  same_written = λ x y e. ap bytes_written e;
  no_front = λ x y _ _ u v p q e. bytes_one x y u v p.0 q.0 e;
  read_written = λ bytes range text h. bytes_front text range bytes h;
  drops_written = λ bytes. one_drop (length (bytes_written bytes));
}

pub view_codec : IsCodec View RangeCfg view_written IsViewRead (λ view. by_copy (length (view_written view)) ∷ [])
    (λ x y. x.bytes ≡ y.bytes)
    (λ range view. (length view.bytes < 2 ^ 64) × (in_range range (length view.bytes) ≡ true))
view_codec = record {
  gives_back = λ view range text rest answer ok e h. view_back view range text rest answer ok.0 ok.1 e h;
  same_written = λ x y e. ap bytes_written e;
  no_front = λ x y _ _ u v p q e. bytes_one x.bytes y.bytes u v p.0 q.0 e;
  read_written = λ view range text (n, there, is).
      bytes_front text range view.bytes (n, there, ap (λ (v : View). v.bytes) is ∙ bytes-taken_view text (length (spell n)) n);
  drops_written = λ view. one_drop (length (view_written view));
}

-- ---- what is dropped

pub bytes-dropped : (text : MarkedText) (droppings : List Dropping) → dropped_len droppings ≤ length text.bytes
    → (dropped text_advanced text_rest text droppings).bytes ≡ drop (dropped_len droppings) text.bytes
bytes-dropped text [] within = refl
bytes-dropped text (by_advance n ∷ more) within =
    let first : (text_advanced text n).bytes ≡ drop n text.bytes = bytes-advanced text n (omega (arith, within)) in
    let len : length (text_advanced text n).bytes + n ≡ length text.bytes =
    omega (arith, within, ap (λ (xs : List ℕ). length xs) first, length-drop n text.bytes) in
    bytes-dropped (text_advanced text n) more (omega (arith, within, len)) ∙ ap (drop (dropped_len more)) first
    ∙ drop-drop (dropped_len more) n text.bytes
bytes-dropped text (by_copy n ∷ more) within =
    let first : (text_rest text n).bytes ≡ drop n text.bytes = bytes-rest text n (omega (arith, within)) in
    let len : length (text_rest text n).bytes + n ≡ length text.bytes =
    omega (arith, within, ap (λ (xs : List ℕ). length xs) first, length-drop n text.bytes) in
    bytes-dropped (text_rest text n) more (omega (arith, within, len)) ∙ ap (drop (dropped_len more)) first
    ∙ drop-drop (dropped_len more) n text.bytes

-- bytes that begin with what was written are left without it
pub left_behind : (text left : MarkedText) (droppings : List Dropping) (written rest : List ℕ) → text.bytes ≡ written ++ rest
    → left ≡ dropped text_advanced text_rest text droppings
    → dropped_len droppings ≡ length written → left.bytes ≡ rest
left_behind text left droppings written rest e behind len =
    let within : dropped_len droppings ≤ length text.bytes = omega
    (arith, len, ap (λ (xs : List ℕ). length xs) e, length-append written rest) in
    ap (λ (t : MarkedText). t.bytes) behind ∙ bytes-dropped text droppings within
    ∙ ap (drop (dropped_len droppings)) e ∙ drop_at written rest (dropped_len droppings) (sym len)
