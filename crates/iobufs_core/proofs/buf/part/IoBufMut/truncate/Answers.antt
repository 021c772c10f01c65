use Rattle.std.proofs.Common.{◌≡◌, ◌+◌, ◌-◌, length, drop, take, min, arith, ap, length-drop}
use Rattle.std.proofs.lemmas.List.{drop-take}
use Rattle.iobufs_core.specs.Part.{Part}
use Rattle.iobufs_core.proofs.buf.part.IoBufMut.truncate.Goals as goal

pub returns-then-n-len : goal.returns-then-n-len
returns-then-n-len c =
    let s = c.self.inside in
    let bytes = s.space.filled in
    let n = c.args.n in
    let cut = c.truncate.new.self in
    let filled : drop s.start cut.filled ≡ take n (drop s.start bytes) = rw c.truncate.ensures (drop-take s.start n bytes) in
    let short = ap (λ (part : Part). length part.filled) c.self.view_is in
    let spare : cut.spare ≡ length (drop s.start bytes) + s.space.spare - min n (length (drop s.start bytes)) =
    rw c.truncate.ensures (omega (arith, short, length-drop s.start bytes)) in
    rw (← c.self.view_is) cc
