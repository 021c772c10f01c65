use Rattle.iobufs.proofs.Text.{Part, ViewRow, ap, arith, joined-pieces, length, length-append, pieces_bytes, put-both, views_in, ◌∙◌}
use Rattle.iobufs.proofs.bufs.row.Row.copy_to.Goals as goal

pub put_all-requires : goal.put_all-requires
put_all-requires c =
    let front = c.as_slices.result.0.now in
    let behind = c.as_slices.result.1.now in
    let all = joined-pieces front behind _ c.as_slices.ensures.items ∙ ap (λ (r : ViewRow). pieces_bytes r.views) c.self.view_is in
    omega (arith, ap length all, length-append (pieces_bytes (views_in front)) (pieces_bytes (views_in behind)), c.requires)

pub put_all-requires-2 : goal.put_all-requires-2
put_all-requires-2 c =
    let front = c.as_slices.result.0.now in
    let behind = c.as_slices.result.1.now in
    omega (
      arith,
      ap length (joined-pieces front behind _ c.as_slices.ensures.items ∙ ap (λ (r : ViewRow). pieces_bytes r.views) c.self.view_is),
      length-append (pieces_bytes (views_in front)) (pieces_bytes (views_in behind)),
      ap (λ (p : Part). p.spare) c.put_all.ensures,
      c.requires,
    )

pub returns : goal.returns
returns c =
    let front = c.as_slices.result.0.now in
    let behind = c.as_slices.result.1.now in
    let all = joined-pieces front behind _ c.as_slices.ensures.items ∙ ap (λ (r : ViewRow). pieces_bytes r.views) c.self.view_is in
    cc (c.put_all-2.ensures, c.put_all.ensures, put-both c.args.copy.now (pieces_bytes (views_in front)) (pieces_bytes (views_in behind)))
