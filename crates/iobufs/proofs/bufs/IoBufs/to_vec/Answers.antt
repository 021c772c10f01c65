use Rattle.iobufs.proofs.Text.{ap, arith, bytes-kept, length-kept, take, take_all, ◌∙◌}
use Rattle.iobufs.proofs.bufs.IoBufs.to_vec.Goals as goal

pub copy_front-requires : goal.copy_front-requires
copy_front-requires c =
    omega (arith, length-kept c.self.inside _ c.self.view_is, c.len-len.ensures.value)

pub returns-clause-ok : goal.returns-clause-ok
returns-clause-ok c =
    c.in_ok-copy_front.ensures ∙ ap (take c.len-len.result) (bytes-kept c.self.inside _ c.self.view_is)
    ∙ take_all c.len-len.result c.args.self.now.bytes (omega (arith, c.len-len.ensures.value))
