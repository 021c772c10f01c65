use Rattle.iobufs.proofs.Text.{List, Part, [], ap, append-nil, arith, deque_iter_rest, nil_from_length, parts_filled, sym, take, take-nil, ℕ, ◌++◌, ◌∙◌, ◌≡◌}
use Rattle.iobufs.proofs.Parts.{filled-order, share-turn}
use Rattle.iobufs.proofs.bufs_mut.several.Several.copy_front.Goals as goal
use Rattle.iobufs.proofs.bufs_mut.several.Several.copy_front.Goals.{in-None, in-Some+then-rest-eq0}

pub loop-part-init : goal.loop-part-init
loop-part-init c =
    let s = c.self.inside in
    let n = c.args.n in
    let bytes = filled-order s.row.items s.used c.self.invariant.behind ∙ ap parts_filled c.self.view_is in
    record {
      some = omega arith;
      room = omega (arith, c.in_ok-bytes.ensures.capacity, c.in_ok-bytes.ensures.len);
      so_far = cc (c.into_iter-part-iterator.ensures.into_iter_gives.0, c.in_ok-bytes.ensures.items);
    }

pub loop-part-preserved : goal.loop-part-preserved
loop-part-preserved c =
    let l = c.loop-part in
    let share = c.extend_share-rest.ensures in
    record {
      some = omega (arith, l.invariant.some, share.left);
      room = share.room;
      so_far = share-turn _ l.bytes.items _ c.in-Some.part.now.filled (parts_filled (deque_iter_rest c.next.new.self)) l.rest _ share.put
          share.left (l.invariant.so_far ∙ ap (λ ps. l.bytes.items ++ take l.rest (parts_filled ps)) c.in-Some.ensures.steps);
    }

pub returns-clause-bytes : goal.returns-clause-bytes
returns-clause-bytes c =
    let l = c.loop-part in
    let left = λ (k : ℕ) (ps : List Part). l.bytes.items ++ take k (parts_filled ps) in
    elim c.match-next.branch [
      | in-None w ↦
          let none : deque_iter_rest l.part-iterator ≡ [] = nil_from_length _ w.in-None.ensures.steps.0 in
          sym (l.invariant.so_far ∙ ap (left l.rest) none ∙ ap (λ bytes. l.bytes.items ++ bytes) (take-nil l.rest)
          ∙ append-nil l.bytes.items)
      | in-Some+then-rest-eq0 w ↦
          let done : l.rest ≡ 0 = omega (arith, w.if-rest-eq0.true) in
          sym (l.invariant.so_far ∙ ap (λ k. left k (deque_iter_rest l.part-iterator)) done ∙ append-nil l.bytes.items)
    ]
