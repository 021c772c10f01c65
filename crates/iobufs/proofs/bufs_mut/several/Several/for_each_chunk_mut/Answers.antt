use Rattle.std.specs.Fn.{CalledAtMut}
use Rattle.iobufs.specs.Visiting.{IsVisited}
use Rattle.iobufs.proofs.Text.{HaveNoSpare, IsParts, List, Part, in_order, parts_filled, subst, sym, ℕ}
use Rattle.iobufs.proofs.Parts.{full-overwritten, overwritten-order, parts-overwritten, summed-overwritten, visited-order}
use Rattle.iobufs.proofs.bufs_mut.several.Several.for_each_chunk_mut.Goals as goal

pub invariant_of-self : goal.invariant_of-self
invariant_of-self g c =
    let s = c.self.inside in
    let made = parts_filled c.visit_all.new.parts.items in
    let over = overwritten-order s.row.items _ s.used made c.self.invariant.behind c.visit_all.ensures.1.kept in
    record {
      behind = over.1;
      no_spare = subst (λ ps. HaveNoSpare s.full ps) (sym over.0)
          (full-overwritten s.full (in_order s.row.items s.used) made c.self.invariant.no_spare);
      parts = subst IsParts (sym over.0) (parts-overwritten (in_order s.row.items s.used) made c.self.invariant.parts);
      sums = summed-overwritten (in_order s.row.items s.used) _ made s.len s.capacity c.self.invariant.sums over.0;
    }

pub returns : goal.returns
returns g c =
    let call : g.row.F.Denot → List ℕ → g.row.F.Denot → List ℕ → Type 0 = λ f x h y. CalledAtMut g.F.FnMut f x tt h y in
    let s = c.self.inside in
    let all = c.visit_all.ensures in
    let new = c.visit_all.new.parts.items in (
      all.0,
      subst (λ (ps : List Part). IsVisited call c.args.visit ps all.0 (in_order new s.used)) c.self.view_is
          (visited-order call c.args.visit all.0 s.row.items new s.used c.self.invariant.behind all.1),
    )
