use Rattle.iobufs.proofs.Text.{List, Entry, ViewRow, ap, arith, drop, length, length-map, refl, row-run, take, views_in, ◌++◌, ◌+◌, ◌∙◌, ◌≡◌}
use Rattle.iobufs.proofs.bufs.row.Row.run.Goals as goal

pub overflow_add-count : goal.overflow_add-count
overflow_add-count c =
    let pieces = c.self.inside.entries in
    let count : length (views_in pieces.items) ≡ length c.args.self.now.views = ap (λ (r : ViewRow). length r.views) c.self.view_is in
    omega (arith, c.requires, count, length-map pieces.items (λ (p : Entry). p.view), pieces.ok.0, pieces.small.0, pieces.small.1)

pub invariant_of-result : goal.invariant_of-result
invariant_of-result c =
    let s = c.self.inside in
    let wanted = take (c.args.behind + 1) (drop c.args.first s.entries.items) in
    let run = c.in_ok-clone_run.ensures ∙ ap (λ (xs : List Entry). xs ++ wanted) c.in_ok-entries.ensures.items in
    let seen = ap (λ (r : ViewRow). r.views) c.self.view_is in
    (row-run s.base _ c.args.first _ _ s.entries.items _ c.args.self.now c.self.invariant seen c.start.ensures refl run).0

pub returns : goal.returns
returns c =
    let s = c.self.inside in
    let wanted = take (c.args.behind + 1) (drop c.args.first s.entries.items) in
    let run = c.in_ok-clone_run.ensures ∙ ap (λ (xs : List Entry). xs ++ wanted) c.in_ok-entries.ensures.items in
    let seen = ap (λ (r : ViewRow). r.views) c.self.view_is in
    (row-run s.base _ c.args.first _ _ s.entries.items _ c.args.self.now c.self.invariant seen c.start.ensures refl run).1
