use Rattle.iobufs.proofs.Text.{HaveNoSpare, arith, subst, suc, sym, ◌+◌, ◌∙◌, ◌≡◌}
use Rattle.iobufs.proofs.Parts.{full-next}
use Rattle.iobufs.proofs.bufs_mut.several.count_full.Goals as goal

pub loop-full-preserved : goal.loop-full-preserved
loop-full-preserved c =
    let l = c.loop-full in
    let parts = c.args.parts.now.items in
    let none = sym c.remaining_mut.ensures ∙ c.if-remaining_mut-eq0.true in
    let more : suc l.full ≡ l.full + 1 = omega arith in
    subst (λ n. HaveNoSpare n parts) more (full-next l.full parts _ l.invariant (omega arith) c.index.ensures none)
