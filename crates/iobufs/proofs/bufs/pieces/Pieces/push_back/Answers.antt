use Rattle.iobufs.proofs.Text.{pieced-as, refl, several-either, several-push}
use Rattle.iobufs.proofs.bufs.pieces.Pieces.push_back.Goals as goal

pub invariant_of-self-in-Many : goal.invariant_of-self-in-Many
invariant_of-self-in-Many c =
    let pieced = pieced-as c.in-Many.is c.self.invariant in
    several-either c.push_back.result _ _ _ pieced (several-push _ _ c.args.piece pieced c.requires.some refl) c.push_back.ensures.done
    c.push_back.ensures.unchanged
