use Rattle.std.proofs.Common.{◌≡◌, ◌+◌, ◌-◌, ◌++◌, length, drop, take, replicate, arith, length-drop}
use Rattle.iobufs_core.proofs.Windows.{drop_resized}
use Rattle.iobufs_core.proofs.buf.part.IoBufMut.set_len.Goals as goal

pub returns : goal.returns
returns c =
    let s = c.self.inside in
    let bytes = s.space.filled in
    let n = c.args.n in
    let long = c.resize.new.self in
    let zeros : s.start + n - length bytes ≡ n - length (drop s.start bytes) = omega (arith, length-drop s.start bytes) in
    let filled : drop s.start long.filled ≡ take n (drop s.start bytes) ++ replicate (n - length (drop s.start bytes)) 0 =
    rw (c.resize.ensures, zeros) (drop_resized s.start n bytes (replicate (n - length (drop s.start bytes)) 0) c.self.invariant.1) in
    let spare : long.spare ≡ length (drop s.start bytes) + s.space.spare - n =
    rw c.resize.ensures (omega (arith, length-drop s.start bytes)) in
    rw (← c.self.view_is) cc
