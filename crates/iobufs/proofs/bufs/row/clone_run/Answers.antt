use Rattle.iobufs.proofs.Text.{IfSome, arith, run-more, slice_index_or, subst, ◌+◌, ◌∙◌, ◌≡◌}
use Rattle.iobufs.proofs.bufs.row.clone_run.Goals as goal

pub loop-i-preserved : goal.loop-i-preserved
loop-i-preserved c =
    let inv = c.loop-i.invariant in
    let row = c.args.row.now in
    let found = subst (λ piece. IfSome piece (λ x. x.now ≡ slice_index_or row.items
    (c.args.first + c.loop-i.i) x.now)) c.unwrap-piece.ensures
    c.get.ensures.lookup in
    record {
      cloned = run-more row.items c.args.run.now.items _ _ c.args.first c.loop-i.i _ _
          (omega (arith, c.requires.inside, c.loop-i-test.true, row.ok.0)) found c.in_ok-clone.ensures.cases inv.cloned
          c.push_back_reserved.ensures.items;
      len = omega (arith, inv.len, c.push_back_reserved.ensures.len);
      capacity = c.push_back_reserved.ensures.capacity ∙ inv.capacity;
    }
