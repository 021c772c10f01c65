use Rattle.iobufs.proofs.Text.{ap, arith, bytes-kept, length, take, ◌∙◌}
use Rattle.iobufs.proofs.bufs.IoBufs.copy_pieces.Goals as goal

pub copy_from-requires-clause-inside : goal.copy_from-requires-clause-inside
copy_from-requires-clause-inside c = omega (arith, c.requires, ap length (bytes-kept c.self.inside _ c.self.view_is))

pub returns-clause-bytes : goal.returns-clause-bytes
returns-clause-bytes c = c.copy_from.ensures ∙ ap (take _) (bytes-kept c.self.inside _ c.self.view_is)
