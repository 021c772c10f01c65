use Rattle.iobufs.proofs.Text.{HaveNoSpare, Part, ap, arith, set, subst, suc, sym, ◌+◌, ◌∙◌, ◌≡◌}
use Rattle.iobufs.proofs.Parts.{fill-inside, full-before, full-set}
use Rattle.iobufs.proofs.bufs_mut.several.put_inside.Goals as goal
use Rattle.iobufs.proofs.bufs_mut.several.put_inside.Goals.{else-src-room-2, then-src-room-2}

pub returns-clause-put : goal.returns-clause-put
returns-clause-put c =
    let part = c.index_mut-part in
    let row = c.args.parts.now.items in
    λ _. ap (set row c.args.full.now) c.put_share.ensures
    ∙ fill-inside c.args.full.now row part.result.now c.args.src.now c.requires (omega arith) part.ensures.value (omega arith)

pub returns-clause-full : goal.returns-clause-full
returns-clause-full c =
    let full = c.args.full.now in
    let row = c.args.parts.now.items in
    let part = c.put_share.new.self in
    let spare = ap (λ (p : Part). p.spare) c.put_share.ensures in
    let more : suc full ≡ full + 1 = omega arith in
    elim c.if-src-room-2.branch [
      | then-src-room-2 w ↦
          subst (λ n. HaveNoSpare n (set row full part)) (more ∙ sym w.full-is)
          (full-set full row part c.requires (omega arith) (omega (arith, spare, c.remaining_mut-room.ensures, w.if-src-room-2.true)))
      | else-src-room-2 w ↦
          subst (λ n. HaveNoSpare n (set row full part)) (sym w.full-is) (full-before full row part c.requires)
    ]
