-- Frames that are taken from a text, and written.
use Rattle.std.proofs.Common.{◌≡◌, ℕ, ◌+◌, ◌-◌, ◌<◌, ◌≤◌, ◌==◌, if◌then◌else◌, Result, Ok, Err, IfOk, List, ◌++◌, length, drop, ap, sym, subst, ◌∙◌, arith}
use Rattle.std.proofs.lemmas.Bool.Decides.{nat_tests}
use Rattle.std.proofs.lemmas.Grind.{common_steps}
use Rattle.std.proofs.lemmas.List.{append-nil, nil_from_length}
use Rattle.iobufs_core.specs.MarkedText.{MarkedText, taken_view, text_glue, text_len, text_prepend, text_rest}
use Rattle.iobufs_core.specs.ReadBytes.{bytes-rest, bytes-taken_view}
use Rattle.iobufs_core.specs.View.{View, default_view, native_mark}
use Rattle.iobufs_core.specs.declared.codec.base.BufError.{BufError}
use Rattle.iobufs_core.specs.declared.codec.base.RangeCfg.{RangeCfg}
use Rattle.iobufs_frames.proofs.LayoutFacts.{IsSized, admitted, cut_at, follows, parts_at}
use Rattle.iobufs_frames.specs.Frames.{IsCutFrom, IsAtFront, Parts, frame_written}
use Rattle.iobufs_frames.specs.Prefixes.{frame_size, header_size, own_view}
use Rattle.iobufs_frames.specs.declared.lengths.Layout.{Layout}

-- the view of a body that is taken from after its header is a frame's, and leaves what is after it
pub taken-with : (layout : Layout) (range : RangeCfg) (old new : MarkedText) (v h m : ℕ) (view : View)
    → IsSized layout range old.bytes v h m → view ≡ taken_view old h m → new ≡ text_rest old (h + m)
    → ((frame : Parts) × IsAtFront layout range old.bytes new.bytes frame × (frame.body ≡ view.bytes)) × IsCutFrom layout old new view
taken-with layout range old new v h m view (at, inside, front, size, within) is left =
    let c = layout.counts in
    let number : m ≡ v - c = omega (arith, size) in
    let fits : frame_size layout v ≤ text_len old = omega (arith, front, number, within) in
    let cut = cut_at layout old.bytes v at (admitted layout range v inside).0 fits in
    let frame = parts_at layout old.bytes v in
    let made : view ≡ taken_view old (header_size layout v) (v - c) = is ∙ (λ i. taken_view old (front i) (number i)) in
    let body : view.bytes ≡ frame.body = ap (λ (w : View). w.bytes) made ∙ bytes-taken_view old (header_size layout v) (v - c) in
    let rest : new ≡ text_rest old (frame_size layout v) = left ∙ (λ i. text_rest old (front i + number i)) in
    let bytes : new.bytes ≡ drop (frame_size layout v) old.bytes =
    ap (λ (t : MarkedText). t.bytes) rest ∙ bytes-rest old (frame_size layout v) fits in
    let long : v ≡ length view.bytes + c = sym (ap (λ (w : List ℕ). length w + c) body ∙ cut.long) in
    let count : v - c ≡ length view.bytes = omega (arith, long) in (
      (
        frame,
        record {
          admitted = follows layout range old.bytes v at inside fits;
          whole = cut.whole ∙ ap (λ w. frame_written layout frame ++ w) (sym bytes);
        },
        sym body,
      ),
      record {
        fits = subst (λ n. frame_size layout n ≤ text_len old) long fits;
        is = made ∙ (λ i. taken_view old (header_size layout (long i)) (count i));
        left = rest ∙ ap (λ n. text_rest old (frame_size layout n)) long;
      },
    )

-- the bytes of a text with a view at the front are the bytes of the view and then those of the text
pub bytes-prepend : (t : MarkedText) (v : View) → (text_prepend t v).bytes ≡ v.bytes ++ t.bytes
unfolding text_glue
bytes-prepend t v = grind (arith, nat_tests, common_steps, append-nil, nil_from_length)

-- a copy of some bytes is a view of just their size
pub copied : (bytes src : List ℕ) (result : Result View BufError) → src ≡ bytes → 0 < length bytes
    → IfOk result (λ view. view ≡ (if length src == 0 then default_view else record { bytes = src; mark = native_mark (length src) }))
    → IfOk result (λ view. view ≡ own_view bytes)
copied bytes src (Ok view) is some made =
    made ∙ ap (λ w. if length w == 0 then default_view else record { bytes = w; mark = native_mark (length w) }) is
    ∙ grind (arith, nat_tests, common_steps, some)
copied bytes src (Err error) is some made = tt
