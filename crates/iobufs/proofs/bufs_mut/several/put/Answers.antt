use Rattle.iobufs.proofs.Text.{HaveNoSpare, Part, [], ap, arith, drop, drop_all, length-take, part_put, set, subst, suc, sym, take, take_all, ◌+◌, ◌∙◌, ◌≡◌}
use Rattle.iobufs.proofs.Parts.{fill-done, fill-turn, full-before, full-set, full-within}
use Rattle.iobufs.proofs.bufs_mut.several.put.Goals as goal

pub returns-then-left-room-clause-put : goal.returns-then-left-room-clause-put
returns-then-left-room-clause-put c =
    let l = c.loop-i in
    let part = c.index_mut-part in
    let x = part.result.now in
    let w = l.left.now in
    let y = c.put_share.new.self in
    let put = c.put_share.ensures ∙ ap (part_put x) (sym (take_all x.spare w (omega arith))) in
    fill-done _ (set l.parts.items l.i y) (l.i + 1)
    (fill-turn _ l.parts.items l.i x y w [] (omega arith) part.ensures.value put (sym (drop_all x.spare w (omega arith)))
    l.invariant.so_far)

pub returns-then-left-room-clause-full : goal.returns-then-left-room-clause-full
returns-then-left-room-clause-full c = full-before c.loop-i.i c.loop-i.parts.items _ c.loop-i.invariant.no_spare

pub loop-i-preserved : goal.loop-i-preserved
loop-i-preserved c =
    let l = c.loop-i in
    let part = c.index_mut-part in
    let x = part.result.now in
    let w = l.left.now in
    let room = c.remaining_mut-room.ensures in
    let more : suc l.i ≡ l.i + 1 = omega arith in
    let y = c.put_share-in-loop-i.new.self in
    let put : y ≡ part_put x (take x.spare w) =
    c.put_share-in-loop-i.ensures ∙ ap (part_put x) (c.split_at.ensures.front ∙ ap (λ n. take n w) room) in
    record {
      no_spare = subst (λ n. HaveNoSpare n (set l.parts.items l.i y)) more
          (full-set l.i l.parts.items y l.invariant.no_spare (omega arith)
          (omega (arith, ap (λ (p : Part). p.spare) put, length-take x.spare w, room, c.if-left-room.false)));
      same_len = l.invariant.same_len;
      so_far = fill-turn _ l.parts.items l.i x y w _ (omega arith) part.ensures.value put
          (c.split_at.ensures.back ∙ ap (λ n. drop n w) room) l.invariant.so_far;
    }

pub returns-clause-full : goal.returns-clause-full
returns-clause-full c =
    let l = c.loop-i in
    let all : l.i ≡ c.len.result = omega (arith, full-within l.i l.parts.items l.invariant.no_spare) in
    subst (λ n. HaveNoSpare n l.parts.items) all l.invariant.no_spare
