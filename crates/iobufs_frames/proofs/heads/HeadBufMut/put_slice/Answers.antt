use Rattle.std.proofs.Common.{arith, refl, ◌+◌, ◌-◌, length}
use Rattle.iobufs_frames.proofs.HeadLaws.{head_put}
use Rattle.iobufs_frames.proofs.heads.HeadBufMut.put_slice.Goals as goal

pub returns : goal.returns
returns c =
    let h = c.self.inside in
    let n = length c.args.src.now in
    head_put h.bytes c.args.src.now c.copy_from_slice.new.self h.start h.end (h.end + n - h.end) n c.args.self.now c.self.invariant.0
    (omega arith) refl c.requires c.copy_from_slice.ensures.after c.self.view_is
