use Rattle.iobufs.proofs.Text.{CalledAt, FoldsTo, List, Entry, [], ap, arith, called_at, folds-on, map, map_more, of_calls, refl, subst, sym, take, take_all, ℕ, ◌++◌, ◌∙◌, ◌∷◌}
use Rattle.iobufs.proofs.bufs.row.show.Goals as goal

pub loop-piece-init : goal.loop-piece-init
loop-piece-init g c = (search of_calls, refl)

pub loop-piece-preserved : goal.loop-piece-preserved
loop-piece-preserved g c =
    let R : g.row.F.Denot → List ℕ → g.row.F.Denot → Type 0 = λ before chunk after. CalledAt g.F.FnMut before chunk tt after in
    let l = c.loop-piece in
    let bytes : Entry → List ℕ = λ (p : Entry). p.view.bytes in
    let more = map_more bytes c.args.entries.now l.piece-index c.piece-item.result c.loop-piece-test.true in
    let turn = ap (λ (y : List ℕ). map bytes (take l.piece-index c.args.entries.now) ++ y ∷ [])
    (c.as_ref.ensures ∙ ap bytes c.piece-item.is) in
    let on = folds-on R _ (map bytes (take l.piece-index c.args.entries.now)) _ c.as_ref.result.now _ l.invariant.1
    (called_at g.F.FnMut c.visit.ensures refl) in
    (search of_calls, subst (λ xs. FoldsTo R c.args.visit xs c.visit.new.self) (turn ∙ sym more) on)

pub returns-clause-callable : goal.returns-clause-callable
returns-clause-callable g c = c.loop-piece.invariant.0

pub returns-clause-shown : goal.returns-clause-shown
returns-clause-shown g c =
    let R : g.row.F.Denot → List ℕ → g.row.F.Denot → Type 0 = λ before chunk after. CalledAt g.F.FnMut before chunk tt after in
    let l = c.loop-piece in
    let all = take_all l.piece-index c.args.entries.now (omega (arith, c.loop-piece-test.false)) in
    subst (λ ps. FoldsTo R c.args.visit (map (λ (p : Entry). p.view.bytes) ps) l.visit) all l.invariant.1
