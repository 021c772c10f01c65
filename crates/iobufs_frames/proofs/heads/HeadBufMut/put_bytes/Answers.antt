use Rattle.std.proofs.Common.{arith, ap, sym, ◌∙◌, ◌+◌, ◌-◌, length-take, length-drop, drop, replicate}
use Rattle.std.proofs.lemmas.List.{length-replicate}
use Rattle.iobufs_frames.proofs.HeadLaws.{head_put}
use Rattle.iobufs_frames.proofs.heads.HeadBufMut.put_bytes.Goals as goal

pub returns : goal.returns
returns c =
    let h = c.self.inside in
    let n = c.args.n in
    let filled = c.fill.ensures.after (λ y is. is) in
    head_put h.bytes (replicate n c.args.value) c.fill.new.self h.start h.end (h.end + n - h.end) n c.args.self.now c.self.invariant.0
    (omega arith) (sym (length-replicate n c.args.value)) c.requires
    (filled ∙ ap (λ k. replicate k c.args.value)
    (omega (arith, length-take (h.end + n - h.end) (drop h.end h.bytes), length-drop h.end h.bytes))) c.self.view_is
