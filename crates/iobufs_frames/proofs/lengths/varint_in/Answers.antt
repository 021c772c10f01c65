use Rattle.std.proofs.Common.{List, ℕ, arith, subst, sym}
use Rattle.std.proofs.lemmas.List.{drop_all}
use Rattle.iobufs_frames.proofs.PrefixFacts.{nothing_open}
use Rattle.iobufs_frames.specs.Prefixes.{HasNoLengthAt, IsOpenAt}
use Rattle.iobufs_frames.specs.declared.lengths.Prefix.TheVariants.{Spelled}
use Rattle.iobufs_frames.proofs.lengths.varint_in.Goals as goal

pub returns-then-remaining-skip-clause-none : goal.returns-then-remaining-skip-clause-none
returns-then-remaining-skip-clause-none g c =
    subst (λ (xs : List ℕ). HasNoLengthAt Spelled xs × IsOpenAt Spelled xs)
    (sym (drop_all c.args.skip (g.B.Buf.text c.args.buf.now) (omega (arith, c.remaining.ensures, c.if-remaining-skip.true))))
    (nothing_open Spelled)
