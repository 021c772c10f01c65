-- The bytes of frames that are not sent.
use Rattle.std.proofs.Common.{◌≡◌, ℕ, ◌-◌, ◌≤◌, List, [], ◌∷◌, ◌++◌, append_assoc, length, drop, get_or, ap, drop-drop, min, refl, sym, ◌+◌, ◌∙◌, arith, length-append, length-drop}
use Rattle.std.proofs.Math.Nat.{min-eq_left, min-eq_right}
use Rattle.std.proofs.lemmas.List.{drop-append-le, nil_from_length}
use Rattle.std.proofs.Math.Seq.{drop-append-add}
use Rattle.iobufs_core.specs.MarkedText.{MarkedText, text_rest}
use Rattle.iobufs_core.specs.ReadBytes.{bytes-rest}
use Rattle.iobufs_frames.specs.Unsent.{ArePassed, IsAdvanced, UnsentBytes, rest_after, unsent_after, unsent_rest}

-- all of a header goes, and some bytes of the body
pub body_goes : (u : UnsentBytes) (gone : List ℕ) (left : MarkedText) (n : ℕ) → u.head ++ u.body.bytes ≡ u.bytes → length u.head ≤ n
    → n ≤ length u.bytes → gone ≡ drop (length u.head) u.head → left ≡ text_rest u.body (n - length u.head)
    → record { head = gone; body = left; bytes = gone ++ left.bytes } ≡ unsent_rest u n
body_goes u gone left n is more within none rest =
    let ahead = length u.head in
    let nothing : gone ≡ [] = nil_from_length gone (omega (arith, ap (λ (w : List ℕ). length w) none, length-drop ahead u.head)) in
    let head : gone ≡ drop n u.head = nothing ∙ sym (nil_from_length (drop n u.head) (omega (arith, length-drop n u.head, more))) in
    let bytes : gone ++ left.bytes ≡ drop n u.bytes =
    ap (λ w. w ++ left.bytes) nothing ∙ ap (λ (t : MarkedText). t.bytes) rest
    ∙ bytes-rest u.body (n - ahead) (omega (arith, within, more, ap (λ (w : List ℕ). length w) is, length-append u.head u.body.bytes))
    ∙ sym (drop-append-add u.head u.body.bytes (n - ahead)) ∙ ap (λ k. drop k (u.head ++ u.body.bytes)) (omega (arith, more))
    ∙ ap (drop n) is in
    λ i. record { head = head i; body = rest i; bytes = bytes i }

-- bytes of the first frame alone go
pub rest_goes : (u new : UnsentBytes) (others : List ℕ) (n : ℕ) → length u.bytes ≡ length u.head + length u.body.bytes
    → n ≤ length u.bytes → new ≡ unsent_rest u n
    → record new { bytes = new.bytes ++ others } ≡ rest_after (record u { bytes = u.bytes ++ others }) n
rest_goes u new others n parts within is =
    let few : n - length u.head ≤ length u.body.bytes = omega (arith, parts, within) in
    let body : new.body ≡ text_rest u.body (min (n - length u.head) (length u.body.bytes)) =
    ap (λ (v : UnsentBytes). v.body) is ∙ ap (text_rest u.body) (sym (min-eq_left few)) in
    let bytes : new.bytes ++ others ≡ drop n (u.bytes ++ others) =
    ap (λ (v : UnsentBytes). v.bytes ++ others) is ∙ sym (drop-append-le n u.bytes others within) in
    λ i. record { head = ap (λ (v : UnsentBytes). v.head) is i; body = body i; bytes = bytes i }

-- all of it goes, and some of the copies
pub copies_go : (u new : UnsentBytes) (tail : List ℕ) (sent n : ℕ) → length u.bytes ≡ length u.head + length u.body.bytes
    → length u.bytes ≤ n → new ≡ unsent_rest u (length u.bytes)
    → record new { bytes = new.bytes ++ drop (sent + (n - length u.bytes)) tail }
    ≡ rest_after (record u { bytes = u.bytes ++ drop sent tail }) n
copies_go u new tail sent n parts more is =
    let all = length u.bytes in
    let head : new.head ≡ drop n u.head =
    ap (λ (v : UnsentBytes). v.head) is ∙ nil_from_length (drop all u.head) (omega (arith, parts, length-drop all u.head))
    ∙ sym (nil_from_length (drop n u.head) (omega (arith, parts, more, length-drop n u.head))) in
    let many : length u.body.bytes ≤ n - length u.head = omega (arith, parts, more) in
    let whole : all - length u.head ≡ length u.body.bytes = omega (arith, parts) in
    let body : new.body ≡ text_rest u.body (min (n - length u.head) (length u.body.bytes)) =
    ap (λ (v : UnsentBytes). v.body) is ∙ ap (text_rest u.body) (whole ∙ sym (min-eq_right many)) in
    let none : new.bytes ≡ [] =
    ap (λ (v : UnsentBytes). v.bytes) is ∙ nil_from_length (drop all u.bytes) (omega (arith, length-drop all u.bytes)) in
    let size : all + (n - all) ≡ n = omega (arith, more) in
    let bytes : new.bytes ++ drop (sent + (n - all)) tail ≡ drop n (u.bytes ++ drop sent tail) =
    ap (λ w. w ++ drop (sent + (n - all)) tail) none ∙ sym (drop-drop (n - all) sent tail)
    ∙ sym (drop-append-add u.bytes (drop sent tail) (n - all)) ∙ ap (λ k. drop k (u.bytes ++ drop sent tail)) size in
    λ i. record { head = head i; body = body i; bytes = bytes i }

-- some bytes more went
pub advanced_on : (old mid new : UnsentBytes) (n : ℕ) → IsAdvanced old mid → new ≡ rest_after mid n → IsAdvanced old new
advanced_on old mid new n (counts, is) more = (n ∷ counts, more ∙ ap (λ (u : UnsentBytes). rest_after u n) is)

-- some more went after them
advanced_by : (old mid new : UnsentBytes) (counts : List ℕ) → IsAdvanced old mid → new ≡ unsent_after mid counts → IsAdvanced old new
advanced_by old mid new [] (before, is) more = (before, more ∙ is)
advanced_by old mid new (n ∷ counts) is more =
    advanced_on old (unsent_after mid counts) new n (advanced_by old mid (unsent_after mid counts) counts is refl) more

-- no byte of these frames went
pub passed_none : (rest : UnsentBytes) (more : List UnsentBytes) → ArePassed (rest ∷ more) rest more
passed_none rest more = record { gone = []; first = rest; whole = refl; advanced = ([], refl) }

-- the next frame is the first
pub passed_next : (frames : List UnsentBytes) (rest next : UnsentBytes) (more : List UnsentBytes) → ArePassed frames rest (next ∷ more)
    → ArePassed frames next more
passed_next frames rest next more is = record {
  gone = is.gone ++ is.first ∷ [];
  first = next;
  whole = is.whole ∙ sym (append_assoc is.gone (is.first ∷ []) (next ∷ more));
  advanced = ([], refl);
}

-- some bytes more of the first frame went
pub passed_on : (frames : List UnsentBytes) (rest new : UnsentBytes) (more : List UnsentBytes) (n : ℕ) → ArePassed frames rest more
    → new ≡ rest_after rest n → ArePassed frames new more
passed_on frames rest new more n is less = record {
  gone = is.gone;
  first = is.first;
  whole = is.whole;
  advanced = advanced_on is.first rest new n is.advanced less;
}

both : (frames : List UnsentBytes) (rest : UnsentBytes) (more : List UnsentBytes) (new : UnsentBytes) (left gone : List UnsentBytes)
    (first : UnsentBytes) → ArePassed frames rest more → rest ∷ more ≡ gone ++ first ∷ left → IsAdvanced first new
    → ArePassed frames new left
both frames rest more new left [] first is whole (counts, less) =
    let here : rest ≡ first = ap (λ (us : List UnsentBytes). get_or us 0 rest) whole in
    let after : more ≡ left = ap (λ (us : List UnsentBytes). drop 1 us) whole in record {
      gone = is.gone;
      first = is.first;
      whole = is.whole ∙ ap (λ us. is.gone ++ is.first ∷ us) after;
      advanced = advanced_by is.first rest new counts is.advanced (less ∙ ap (λ (u : UnsentBytes). unsent_after u counts) (sym here));
    }
both frames rest more new left (u ∷ gone) first is whole less =
    let after : more ≡ gone ++ first ∷ left = ap (λ (us : List UnsentBytes). drop 1 us) whole in record {
      gone = is.gone ++ is.first ∷ gone;
      first = first;
      whole = is.whole ∙ ap (λ us. is.gone ++ is.first ∷ us) after ∙ sym (append_assoc is.gone (is.first ∷ gone) (first ∷ left));
      advanced = less;
    }

-- frames went, and then more
pub passed_both : (frames : List UnsentBytes) (rest : UnsentBytes) (more : List UnsentBytes) (new : UnsentBytes) (left : List UnsentBytes)
    → ArePassed frames rest more → ArePassed (rest ∷ more) new left → ArePassed frames new left
passed_both frames rest more new left is next = both frames rest more new left next.gone next.first is next.whole next.advanced
