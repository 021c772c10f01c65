use Rattle.std.proofs.lemmas.List.{drop-append-le, drop-map, drop_min, take_all, length-drop, length-map}
use Rattle.std.proofs.Math.Seq.{drop-append-add}
use Rattle.iobufs.proofs.Text.{List, Entry, View, ViewRow, ap, append-nil, arith, bytes-in, map, map-append, sym, ℕ, ◌∙◌, ◌≡◌, ◌++◌, ◌+◌, ◌-◌, drop, length, min}
use Rattle.iobufs.proofs.bufs.row.Row.chunk_slices_from.Goals as goal

pub returns-then-first-front : goal.returns-then-first-front
returns-then-first-front c =
    let bytes : Entry → List ℕ = λ (p : Entry). p.view.bytes in
    let front = c.as_slices.result.0.now in
    let behind = c.as_slices.result.1.now in
    let first = c.args.first in
    let same = sym (map-append bytes front behind) ∙ ap (map bytes) c.as_slices.ensures.items ∙ bytes-in c.self.inside.entries.items
    ∙ ap (λ (r : ViewRow). map (λ (v : View). v.bytes) r.views) c.self.view_is in
    let rest = take_all (length front - first) (drop first front) (omega (arith, length-drop first front)) in
    ap (λ xs. map bytes xs ++ map bytes behind) rest ∙ ap (λ xs. xs ++ map bytes behind) (sym (drop-map bytes first front))
    ∙ sym (drop-append-le first (map bytes front) (map bytes behind) (omega (arith, length-map front bytes))) ∙ ap (drop first) same

pub returns : goal.returns
returns c =
    let bytes : Entry → List ℕ = λ (p : Entry). p.view.bytes in
    let front = c.as_slices.result.0.now in
    let behind = c.as_slices.result.1.now in
    let first = c.args.first in
    let same = sym (map-append bytes front behind) ∙ ap (map bytes) c.as_slices.ensures.items ∙ bytes-in c.self.inside.entries.items
    ∙ ap (λ (r : ViewRow). map (λ (v : View). v.bytes) r.views) c.self.view_is in
    let skip = c.min-skip.result in
    let past = first - length front in
    let rest = take_all (length behind - skip) (drop skip behind) (omega (arith, length-drop skip behind)) in
    let at : length (map bytes front) + past ≡ first = omega (arith, c.if-first-front.false, length-map front bytes) in
    ap (λ xs. map bytes xs ++ c.none.result) rest ∙ ap (λ xs. map bytes (drop skip behind) ++ xs) c.none.ensures
    ∙ append-nil (map bytes (drop skip behind)) ∙ sym (drop-map bytes skip behind) ∙ ap (λ n. drop n (map bytes behind)) c.min-skip.ensures
    ∙ ap (λ n. drop (min past n) (map bytes behind)) (sym (length-map behind bytes)) ∙ drop_min past (map bytes behind)
    ∙ sym (drop-append-add (map bytes front) (map bytes behind) past) ∙ ap (λ n. drop n (map bytes front ++ map bytes behind)) at
    ∙ ap (drop first) same
