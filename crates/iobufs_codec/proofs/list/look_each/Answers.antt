use Rattle.std.proofs.Common.{◌≡◌, ◌⊎◌, inl, ◌+◌, ◌++◌, ◌<◌, [], ◌∷◌, length, length-append, ap, arith, sym, subst, ◌∙◌}
use Rattle.std.proofs.lemmas.List.Concat.{flat_map-append}
use Rattle.std.specs.List.{flat_map}
use Rattle.iobufs_codec.proofs.Behind.{fault_behind, found_more, refused_so}
use Rattle.iobufs_codec.specs.Form.{no_memory}
use Rattle.iobufs_codec.specs.Listed.{AreFound, IsOneFault}
use Rattle.iobufs_codec.proofs.list.look_each.Goals as goal

pub returns-in_err-value-clause-fault : goal.returns-in_err-value-clause-fault
returns-in_err-value-clause-fault g c =
    let l = c.loop in
    let xs = l.values.items in
    let text = g.B.OwnedBuf.marked c.args.buf.now in
    let found = g.T.Look.is_found in
    let fault = g.T.Look.is_fault in
    let w = g.T.EncodeSize.written in
    let f = c.in_err-value.field-0.0 in
    refused_so (λ f. IsOneFault w found fault c.args.count text c.args.skip c.args.cfg.now f ⊎ ((f ≡ no_memory) × (0 < c.args.count))) _ _
    c.from_residual.ensures.1
    (inl (fault_behind w found fault text c.args.cfg.now f xs c.args.count c.args.skip
    (omega (arith, l.invariant.count, c.loop-test.true, l.auto.counter-end))
    l.invariant.found (subst (λ n. fault text (c.args.skip + n) c.args.cfg.now f) l.invariant.len c.in_err-value.ensures.fault)))

pub loop-preserved : goal.loop-preserved
loop-preserved g c =
    let l = c.loop in
    let w = g.T.EncodeSize.written in
    let found = g.T.Look.is_found in
    let text = g.B.OwnedBuf.marked c.args.buf.now in
    let xs = l.values.items in
    let x = c.in_ok-value.value in
    let items : c.push.new.self.items ≡ xs ++ x ∷ [] = c.in_ok-push.ensures.items in
    let is = subst (λ n. found text (c.args.skip + n) c.args.cfg.now x) l.invariant.len c.in_ok-value.ensures.found in
    let all = ap (λ ys. length (flat_map w ys)) items ∙ ap length (flat_map-append w xs (x ∷ [])) in
    let parts = length-append (flat_map w xs) (flat_map w (x ∷ [])) in
    let one = length-append (w x) [] in
    record {
      count = omega (arith, ap length items, length-append xs (x ∷ []), l.invariant.count);
      found = subst (AreFound w found text c.args.skip c.args.cfg.now) (sym items)
          (found_more w found text c.args.cfg.now x xs c.args.skip l.invariant.found is);
      len = omega (arith, all, parts, one, l.invariant.len, c.in_ok-value.ensures.len);
      within = omega (arith, c.in_ok-value.ensures.within);
    }
