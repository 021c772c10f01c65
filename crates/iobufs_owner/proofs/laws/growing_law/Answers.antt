use Rattle.iobufs_owner.proofs.WorldSteps.{runs-of}
use Rattle.iobufs_owner.proofs.laws.growing_law.Goals as goal

pub returns : goal.returns
returns c = λ m next steps replies r. runs-of m steps replies next r
