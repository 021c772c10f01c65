use Rattle.std.proofs.Common.{◌≡◌, ℕ, ◌≤◌, arith, true}
use Rattle.std.proofs.lemmas.Bool.Decides.{nat_tests}
use Rattle.iobufs_core.proofs.CallerFacts.{read_and_left, written_read_back}
use Rattle.iobufs_core.specs.Ranges.{in_range}
use Rattle.iobufs_examples.proofs.frame.read_frame.Goals as goal

-- [docs: framed_answer]
pub returns-clause-framed : goal.returns-clause-framed
returns-clause-framed c = read_and_left _ _ _ c.read_cfg.result c.read_cfg.ensures.answer c.read_cfg.ensures.rest

-- [docs end]

fits : (most n : ℕ) → n ≤ most → in_range (record { lo = 0; hi = most }) n ≡ true
fits most n h = grind (arith, nat_tests)

pub returns-clause-back : goal.returns-clause-back
returns-clause-back c = λ body rest short is.
    written_read_back _ _ _ c.read_cfg.result body rest c.read_cfg.ensures.answer c.read_cfg.ensures.rest
    (omega (arith, short, c.ranges.most.fits))
    (fits c.args.most _ short) is
