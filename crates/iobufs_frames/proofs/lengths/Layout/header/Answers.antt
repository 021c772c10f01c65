use Rattle.std.proofs.Common.{ap, append_assoc, arith, ◌++◌, ◌∙◌}
use Rattle.iobufs_core.specs.Part.{Part}
use Rattle.iobufs_frames.specs.Prefixes.{prefix_written}
use Rattle.iobufs_frames.proofs.PrefixFacts.{prefix_short}
use Rattle.iobufs_frames.proofs.lengths.Layout.header.Goals as goal

pub put_slice-requires-2 : goal.put_slice-requires-2
put_slice-requires-2 c =
    omega (
      arith,
      c.requires.0,
      ap (λ (p : Part). p.spare) c.put_length.ensures.1,
      ap (λ (p : Part). p.spare) c.put_slice.ensures.1,
      ap (λ (p : Part). p.spare) c.new-head.ensures,
      prefix_short c.args.self.prefix c.args.value,
    )

pub returns : goal.returns
returns c =
    let before = c.args.before.now in
    let after = c.args.after.now in
    let w = prefix_written c.args.self.prefix c.args.value in
    ap (λ (p : Part). p.filled) c.put_slice-2.ensures.1 ∙ ap (λ (p : Part). p.filled ++ after) c.put_length.ensures.1
    ∙ ap (λ (p : Part). (p.filled ++ w) ++ after) c.put_slice.ensures.1
    ∙ ap (λ (p : Part). ((p.filled ++ before) ++ w) ++ after) c.new-head.ensures
    ∙ append_assoc before w after
