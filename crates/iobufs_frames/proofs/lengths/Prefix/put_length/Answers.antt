use Rattle.std.proofs.Common.{List, ap, arith, subst, sym, ◌∙◌, ℕ}
use Rattle.iobufs_core.specs.PartLaws.{IsPut}
use Rattle.iobufs_core.specs.Spelled.{length-spell, spell-last}
use Rattle.iobufs_frames.specs.Prefixes.{prefix_written}
use Rattle.iobufs_frames.proofs.lengths.Prefix.put_length.Goals as goal

pub write-requires : goal.write-requires
write-requires c = omega (arith, length-spell c.args.n, c.requires.1)

pub returns-in-Spelled : goal.returns-in-Spelled
returns-in-Spelled c =
    subst (λ (w : List ℕ). IsPut c.args.head.now w c.put_u8.new.self)
    (sym (spell-last c.args.n c.if-n-lt128.true) ∙ ap (λ p. prefix_written p c.args.n) (sym c.in-Spelled.is)) c.put_u8.ensures
