use Rattle.std.proofs.Common.{◌≤◌, length, arith, ap, sym, refl}
use Rattle.std.proofs.lemmas.Grind.{common_steps}
use Rattle.iobufs_core.specs.Part.{Part}
use Rattle.iobufs_core.proofs.Windows.{overwritten}
use Rattle.iobufs_core.proofs.buf.block.Space.slice_mut.Goals as goal

pub returns : goal.returns
returns c =
    let v = c.self.inside.storage in
    let within : c.args.start ≤ v.len = omega (arith, v.ok.0, ap (λ (part : Part). length part.filled) c.self.view_is) in (
      (refl, λ w. rw (← c.self.view_is) (let filled = overwritten c.args.start v.len v.items w (sym v.ok.0) within in cc)),
      record { writes_back = tt; value = grind (arith, common_steps) },
    )
