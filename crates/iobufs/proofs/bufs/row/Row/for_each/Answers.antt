use Rattle.iobufs.proofs.Text.{CalledAt, FoldsTo, List, Entry, View, ViewRow, ap, bytes-in, folds-append, map, map-append, subst, sym, ℕ, ◌∙◌}
use Rattle.iobufs.proofs.bufs.row.Row.for_each.Goals as goal

pub returns : goal.returns
returns g c =
    let R : g.row.F.Denot → List ℕ → g.row.F.Denot → Type 0 = λ before chunk after. CalledAt g.F.FnMut before chunk tt after in
    let bytes : Entry → List ℕ = λ (p : Entry). p.view.bytes in
    let front = c.as_slices.result.0.now in
    let behind = c.as_slices.result.1.now in
    let on = folds-append R _ (map bytes front) _ (map bytes behind) _ c.show-visit.ensures.shown c.show.ensures.shown in
    let same = sym (map-append bytes front behind) ∙ ap (map bytes) c.as_slices.ensures.items ∙ bytes-in c.self.inside.entries.items
    ∙ ap (λ (r : ViewRow). map (λ (v : View). v.bytes) r.views) c.self.view_is in
    (c.show.result, subst (λ xs. FoldsTo R c.args.visit xs c.show.result) same on)
