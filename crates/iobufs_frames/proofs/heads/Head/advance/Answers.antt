use Rattle.std.proofs.Common.{ap, drop, drop-drop, sym, take, ◌∙◌}
use Rattle.iobufs_core.specs.Part.{Part}
use Rattle.iobufs_frames.proofs.heads.Head.advance.Goals as goal

pub returns : goal.returns
returns c =
    let h = c.self.inside in
    sym (drop-drop c.args.n h.start (take h.end h.bytes)) ∙ ap (λ (p : Part). drop c.args.n p.filled) c.self.view_is
