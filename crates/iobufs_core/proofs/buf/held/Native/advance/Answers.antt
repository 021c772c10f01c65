use Rattle.std.proofs.Common.{◌≤◌, length, arith, ap}
use Rattle.iobufs_core.specs.Native.{NativeText}
use Rattle.iobufs_core.specs.Part.{part_capacity}
use Rattle.iobufs_core.proofs.Windows.{text_at-advanced, length_window}
use Rattle.iobufs_core.proofs.buf.held.Native.advance.Goals as goal

pub returns : goal.returns
returns c =
    let s = c.self.inside in
    let block = s.block in
    let bytes = length_window s.start s.len block.filled c.self.invariant.1 in
    let within : c.args.n ≤ s.len = omega (arith, bytes, ap (λ (text : NativeText). length text.bytes) c.self.view_is) in
    rw (← c.self.view_is) (text_at-advanced block.filled s.start s.len (part_capacity block) c.args.n within)
