use Rattle.iobufs.proofs.Text.{Part, ap, arith, length, length-append, pieces_bytes, put-fits, put-step, views_in, ◌++◌, ◌∙◌}
use Rattle.iobufs.proofs.bufs.row.put_all.Goals as goal

pub put_slice-requires : goal.put_slice-requires
put_slice-requires c =
    let l = c.loop-piece in
    let item = c.in-Some.piece.now in
    let whole = length-append c.args.copy.now.filled (pieces_bytes (views_in c.args.entries.now)) in
    let fits = put-fits l.left.now c.in-Some.rest.now item l.copy.filled _ l.copy.spare c.in-Some.ensures.cases.0 l.invariant.so_far
    (omega (arith, l.invariant.room, c.requires)) in
    omega (arith, ap length c.as_ref.ensures)

pub loop-piece-preserved : goal.loop-piece-preserved
loop-piece-preserved c =
    let l = c.loop-piece in
    let put = ap (λ (p : Part). p.filled) c.put_slice.ensures.1 in
    record {
      so_far = put-step l.left.now c.in-Some.rest.now c.in-Some.piece.now l.copy.filled _ _ c.in-Some.ensures.cases.0 l.invariant.so_far
          (put ∙ ap (λ xs. l.copy.filled ++ xs) c.as_ref.ensures);
      room = omega (
        arith,
        ap length put,
        ap (λ (p : Part). p.spare) c.put_slice.ensures.1,
        length-append l.copy.filled c.as_ref.result.now,
      );
    }
