use Rattle.std.proofs.Common.{◌≡◌, ◌+◌, ◌<◌, ◌++◌, [], ◌∷◌, ◌∙◌, List, ℕ, ap, arith, drop, get_or, length, subst, sym, take}
use Rattle.std.proofs.lemmas.Grind.{drop_more_same}
use Rattle.std.proofs.lemmas.List.{drop-set-lt, get_or-drop, take_more, take_more_set}
use Rattle.std.specs.Fn.{CalledAtMut}
use Rattle.iobufs_core.specs.Part.{Part}
use Rattle.iobufs.specs.Visiting.{IsVisited}
use Rattle.iobufs.proofs.Text.{length-drop}
use Rattle.iobufs.proofs.Parts.{visited-both}
use Rattle.iobufs.proofs.bufs_mut.several.visit_all.Goals as goal

pub loop-i-preserved : goal.loop-i-preserved
loop-i-preserved g c =
    let call : g.row.F.Denot → List ℕ → g.row.F.Denot → List ℕ → Type 0 = λ f x h y. CalledAtMut g.F.FnMut f x tt h y in
    let l = c.loop-i in
    let i = l.i in
    let old = c.args.parts.now.items in
    let now = l.parts.items in
    let p = c.index_mut.result.now in
    let q = c.visit_part-visit.new.part in
    let last = c.visit_part-visit.result in
    let inside : i < length now = omega (arith, c.loop-i-test.true, l.invariant.same_len, l.parts.ok.0) in
    let was : i < length old =
    omega (arith, inside, length-drop i now, length-drop i old, ap (λ (ps : List Part). length ps) l.invariant.rest) in
    let here : get_or old i p ≡ p = sym (seen old i p) ∙ ap (λ (ps : List Part). get_or ps 0 p) (sym l.invariant.rest) ∙ seen now i p
    ∙ sym c.index_mut.ensures.value in
    let before : take i old ++ p ∷ [] ≡ take (i + 1) old = ap (λ (r : Part). take i old ++ r ∷ []) (sym here)
    ∙ sym (take_more old i p was) in
    let both = visited-both call c.args.visit l.visit last (take i old) (take i now) (p ∷ []) (q ∷ []) l.invariant.so_far
    c.visit_part-visit.ensures.visited in
    record {
      same_len = l.invariant.same_len;
      callable = c.visit_part-visit.ensures.callable;
      rest = drop-set-lt (i + 1) now i q (omega arith) ∙ drop_more_same now old i l.invariant.rest;
      so_far = subst (λ (ps : List Part). IsVisited call c.args.visit (take (i + 1) old) last ps) (sym (take_more_set now i q inside))
          (subst (λ (ps : List Part). IsVisited call c.args.visit ps last (take i now ++ q ∷ [])) before both);
    }
  where
    seen : (ps : List Part) (i : ℕ) (d : Part) → get_or (drop i ps) 0 d ≡ get_or ps i d
    seen ps i d = get_or-drop i ps 0 d ∙ ap (λ k. get_or ps k d) (omega arith)
