use Rattle.std.proofs.Common.{List, subst, ℕ, sym, ap, [], ◌∷◌, ◌∙◌, ◌≡◌}
use Rattle.std.specs.Fn.{CalledAtMut}
use Rattle.iobufs_core.specs.Part.{Part}
use Rattle.iobufs.specs.Visiting.{IsVisited}
use Rattle.iobufs.proofs.Text.{shape_parts, the_view}
use Rattle.iobufs.proofs.bufs_mut.IoBufsMut.for_each_chunk_mut.Goals as goal
use Rattle.iobufs.proofs.bufs_mut.IoBufsMut.for_each_chunk_mut.Goals.{in-One, in-Many}

pub returns : goal.returns
returns g c =
    let call : g.row.F.Denot → List ℕ → g.row.F.Denot → List ℕ → Type 0 = λ f x h y. CalledAtMut g.F.FnMut f x tt h y in
    let turn : (old new : List Part) (last : g.row.F.Denot) → old ≡ c.args.self.now → the_view c.match-self.self-inside ≡ new
    → IsVisited call c.args.visit old last new → IsVisited call c.args.visit c.args.self.now last (the_view c.match-self.self-inside) =
    λ old new last is made v. subst (λ ps. IsVisited call c.args.visit ps last (the_view c.match-self.self-inside)) is
    (subst (λ ps. IsVisited call c.args.visit old last ps) (sym made) v) in
    elim c.match-self.branch [
      | in-One w ↦ (
        w.visit_part.result,
        turn (w.in-One.part ∷ []) (w.visit_part.new.part ∷ []) w.visit_part.result
            (ap shape_parts (sym w.in-One.is) ∙ c.self.view_is) (ap the_view w.self-inside-is) w.visit_part.ensures.visited,
      )
      | in-Many w ↦ (
        w.for_each_chunk_mut.ensures.0,
        turn w.in-Many.parts w.for_each_chunk_mut.new.self w.for_each_chunk_mut.ensures.0
            (ap shape_parts (sym w.in-Many.is) ∙ c.self.view_is) (ap the_view w.self-inside-is) w.for_each_chunk_mut.ensures.1,
      )
    ]
