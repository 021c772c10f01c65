use Rattle.iobufs.proofs.Text.{IsMarked, IsMarked-from_views, length-kept, subst, ◌∙◌}
use Rattle.iobufs.proofs.bufs.IoBufs.len.Goals as goal

pub returns : goal.returns
returns c =
    record {
      value = c.len.ensures.value ∙ length-kept c.self.inside _ c.self.view_is;
      marked = subst IsMarked c.self.view_is (IsMarked-from_views _ c.len.ensures.pieces c.self.invariant);
    }
