use Rattle.iobufs.proofs.Text.{ap, arith, bytes-kept, length-kept, take, ◌∙◌}
use Rattle.iobufs.proofs.bufs.IoBufs.copy_front.Goals as goal

pub copy_front-requires : goal.copy_front-requires
copy_front-requires c = omega (arith, c.requires, length-kept c.self.inside _ c.self.view_is)

pub returns-clause-ok : goal.returns-clause-ok
returns-clause-ok c = c.in_ok-from_vec.ensures.ok ∙ c.in_ok-copy_front.ensures
    ∙ ap (take c.args.n) (bytes-kept c.self.inside _ c.self.view_is)
