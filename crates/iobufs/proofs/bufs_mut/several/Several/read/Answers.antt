use Rattle.iobufs.proofs.Text.{ap, arith, deque_iter_rest, length, nil_from_length, parts_filled, sym, take, ◌++◌, ◌-◌, ◌∙◌}
use Rattle.iobufs.proofs.Parts.{filled-order, read-done, share-turn}
use Rattle.iobufs.proofs.bufs_mut.several.Several.read.Goals as goal

pub loop-part-init : goal.loop-part-init
loop-part-init c =
    let s = c.self.inside in
    let bytes = filled-order s.row.items s.used c.self.invariant.behind ∙ ap parts_filled c.self.view_is in
    let iter = c.into_iter-part-iterator in
    record {
      within = omega arith;
      so_far = ap (take (length c.args.dst.now)) (sym bytes ∙ ap parts_filled (sym iter.ensures.into_iter_gives.0))
          ∙ ap (λ k. take k (parts_filled (deque_iter_rest iter.result))) (omega arith);
    }

pub loop-part-preserved : goal.loop-part-preserved
loop-part-preserved c =
    let l = c.loop-part in
    let len = length l.dst in
    let share = c.read_share-at.ensures in
    let so_far = share-turn _ (take l.at l.dst) _ c.in-Some.part.now.filled (parts_filled (deque_iter_rest c.next.new.self)) (len - l.at)
    (len - c.read_share-at.result) share.read (omega (arith, l.invariant.within, share.behind))
    (l.invariant.so_far ∙ ap (λ ps. take l.at l.dst ++ take (len - l.at) (parts_filled ps)) c.in-Some.ensures.steps) in
    rw share.long (record { within = omega (arith, l.invariant.within, share.behind); so_far = so_far })

pub returns : goal.returns
returns c =
    let l = c.loop-part in
    read-done _ l.dst l.at l.invariant.within (omega (arith, l.auto.dst, c.requires))
    (l.invariant.so_far ∙ ap (λ ps. take l.at l.dst ++ take (length l.dst - l.at) (parts_filled ps))
    (nil_from_length _ c.in-None.ensures.steps.0))
    ∙ ap (λ m. take m (parts_filled c.args.self.now)) l.auto.dst
