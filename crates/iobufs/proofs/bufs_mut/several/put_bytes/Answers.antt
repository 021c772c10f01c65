use Rattle.iobufs.proofs.Text.{ap, arith, drop-replicate, replicate, rules, sym, ◌∙◌, ◌≡◌}
use Rattle.iobufs.proofs.Parts.{fill-done, fill-turn}
use Rattle.iobufs.proofs.bufs_mut.several.put_bytes.Goals as goal

pub returns-then-rest-eq0 : goal.returns-then-rest-eq0
returns-then-rest-eq0 c =
    let l = c.loop-i in
    let none : l.rest ≡ 0 = search rules in
    fill-done _ l.parts.items l.i (rw none at l.invariant.so_far)

pub loop-i-preserved : goal.loop-i-preserved
loop-i-preserved c =
    let l = c.loop-i in
    let part = c.index_mut in
    let share = c.put_bytes_share-rest.ensures in
    let left = ap (λ k. replicate k c.args.value) share.left ∙ sym (drop-replicate part.result.now.spare l.rest c.args.value) in
    record {
      same_len = l.invariant.same_len;
      so_far = fill-turn _ l.parts.items l.i part.result.now c.put_bytes_share-rest.new.part _ _ (omega arith) part.ensures.value share.put
          left l.invariant.so_far;
    }
