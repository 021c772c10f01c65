use Rattle.iobufs.proofs.Text.{ap, of_pieces, of_pieces-one, ◌∙◌}
use Rattle.iobufs.proofs.bufs.IoBufsFromIoBuf.from.Goals as goal

pub returns : goal.returns
returns c = ap of_pieces c.one.ensures ∙ of_pieces-one _
