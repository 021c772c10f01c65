use Rattle.iobufs.proofs.Text.{List, View, ap, slice_get, some_views, sym, views-kept, ◌∙◌}
use Rattle.iobufs.proofs.bufs.IoBufs.view_at.Goals as goal

pub returns : goal.returns
returns c =
    c.get.ensures.value
    ∙ ap (λ (vs : List View). slice_get vs c.args.i)
    (sym (views-kept c.self.inside.pieces _ c.self.view_is (some_views _ c.get.ensures.pieces)))
