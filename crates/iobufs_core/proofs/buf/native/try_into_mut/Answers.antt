use Rattle.std.proofs.Common.{◌≡◌, ◌-◌, length, drop, take, arith}
use Rattle.std.proofs.lemmas.List.{drop-take}
use Rattle.iobufs_core.specs.Part.{part_capacity}
use Rattle.iobufs_core.proofs.Windows.{length_window}
use Rattle.iobufs_core.proofs.buf.native.try_into_mut.Goals as goal

pub returns-in-Ok : goal.returns-in-Ok
returns-in-Ok c =
    let s = c.native.inside in
    let block = s.block in
    let cut = c.truncate.new.self in
    let bytes = length_window s.start s.len block.filled c.native.invariant.1 in
    let filled : drop s.start cut.filled ≡ take s.len (drop s.start block.filled) =
    rw (c.truncate.ensures, c.in-Ok.ensures) (drop-take s.start s.len block.filled) in
    let spare : cut.spare ≡ part_capacity block - s.start - length (take s.len (drop s.start block.filled)) =
    rw (c.truncate.ensures, c.in-Ok.ensures) (omega (arith, bytes)) in
    rw (← c.native.view_is) cc
