use Rattle.iobufs.proofs.Text.{ap, arith, deque_iter_rest, nil_from_length, parts_filled, slice_get, sym, ◌-◌, ◌∙◌}
use Rattle.iobufs.proofs.Parts.{byte_behind, byte_in, filled-order}
use Rattle.iobufs.proofs.bufs_mut.several.Several.byte_at.Goals as goal

pub loop-part-init : goal.loop-part-init
loop-part-init c =
    let s = c.self.inside in
    cc (filled-order s.row.items s.used c.self.invariant.behind, c.self.view_is, c.into_iter-part-iterator.ensures.into_iter_gives.0)

pub returns-then-at-len : goal.returns-then-at-len
returns-then-at-len c =
    let l = c.loop-part in
    c.byte_at.ensures ∙ sym (l.invariant ∙ ap (λ ps. slice_get (parts_filled ps) l.at) c.in-Some.ensures.steps
    ∙ byte_in c.in-Some.part.now.filled (parts_filled (deque_iter_rest c.next.new.self)) l.at (omega (arith, c.len-len.ensures)))

pub loop-part-preserved : goal.loop-part-preserved
loop-part-preserved c =
    let l = c.loop-part in
    let rest = parts_filled (deque_iter_rest c.next.new.self) in
    l.invariant ∙ ap (λ ps. slice_get (parts_filled ps) l.at) c.in-Some.ensures.steps
    ∙ byte_behind c.in-Some.part.now.filled rest l.at (omega (arith, c.len-len.ensures))
    ∙ ap (λ n. slice_get rest (l.at - n)) (sym c.len-len.ensures)

pub returns : goal.returns
returns c =
    let l = c.loop-part in
    sym (l.invariant ∙ ap (λ ps. slice_get (parts_filled ps) l.at) (nil_from_length _ c.in-None.ensures.steps.0))
