use Rattle.iobufs.proofs.Text.{CalledAt, FoldsTo, Inside, List, View, [], ap, append-nil, arith, called_at, chunks-kept, chunks-of_empty, length, length-kept, of_pieces, pieced-as, pieces_bytes, refl, subst, sym, views, ℕ, ◌∙◌, ◌∷◌, ◌≡◌}
use Rattle.iobufs.proofs.bufs.IoBufs.for_each_chunk.Goals as goal

pub returns-then-len-ne0 : goal.returns-then-len-ne0
returns-then-len-ne0 g c =
    let R : g.row.F.Denot → List ℕ → g.row.F.Denot → Type 0 = λ before chunk after. CalledAt g.F.FnMut before chunk tt after in
    let seen : c.in-One.piece ∷ [] ≡ c.self.inside.pieces = ap views (sym c.in-One.is)
    ∙ ap (λ (s : Inside). s.pieces) c.self-inside.view_is in
    let one = chunks-kept (c.in-One.piece ∷ []) _ (ap of_pieces seen ∙ c.self.view_is) (omega arith)
    (omega (arith, c.len.ensures.value), tt) in
    let shown = ap (λ (bytes : List ℕ). bytes ∷ []) c.as_ref.ensures ∙ sym one in (
      c.visit.new.self,
      subst (λ l. FoldsTo R c.args.visit l c.visit.new.self) shown
          (c.visit.new.self, called_at g.F.FnMut c.visit.ensures refl, refl),
    )

pub returns-in-One : goal.returns-in-One
returns-in-One g c =
    let R : g.row.F.Denot → List ℕ → g.row.F.Denot → Type 0 = λ before chunk after. CalledAt g.F.FnMut before chunk tt after in
    let len = length-kept c.self.inside _ c.self.view_is in
    let one = ap (λ (vs : List View). length (pieces_bytes vs))
    (ap views (sym c.in-One.is) ∙ ap (λ (s : Inside). s.pieces) c.self-inside.view_is) in
    let bytes = ap length (append-nil c.in-One.piece.bytes) in (
      c.args.visit,
      subst (λ l. FoldsTo R c.args.visit l c.args.visit)
          (sym (chunks-of_empty c.args.self.now (omega (arith, c.len.ensures.value)))) refl,
    )

pub returns : goal.returns
returns g c =
    let seen : c.in-Many.row.views ≡ c.self.inside.pieces = ap views (sym c.in-Many.is)
    ∙ ap (λ (s : Inside). s.pieces) c.self-inside.view_is in
    let several = pieced-as c.in-Many.is c.self-inside.invariant in
    let chunks = chunks-kept c.in-Many.row.views _ (ap of_pieces seen ∙ c.self.view_is) (omega (arith, several.0)) several.1 in
    let all = c.for_each.ensures in
    (all.0, subst (λ l. FoldsTo (λ before chunk after. CalledAt g.F.FnMut before chunk tt after) c.args.visit l all.0) (sym chunks) all.1)
