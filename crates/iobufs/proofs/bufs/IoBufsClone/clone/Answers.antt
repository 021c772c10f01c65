use Rattle.iobufs.proofs.Text.{IsFreelyShared, err_from_is_err_and, only-view, subst}
use Rattle.iobufs.proofs.bufs.IoBufsClone.clone.Goals as goal

pub returns-in_err-pieces : goal.returns-in_err-pieces
returns-in_err-pieces c =
    let (error, told, _) = err_from_is_err_and c.from_residual.result c.from_residual.ensures.1 in
    rw told (record {
      cases = λ free.
          let only = only-view c.self.inside.pieces _ c.self.view_is free.0 in
          c.in_err-pieces.ensures.cases (only.0, subst IsFreelyShared only.1 free.1);
    })
