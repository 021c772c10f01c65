use Rattle.iobufs_owner.proofs.WorldSteps.{tells-unique}
use Rattle.iobufs_owner.proofs.laws.unique_law.Goals as goal

pub returns : goal.returns
returns c = λ w next step reply s. tells-unique w next step reply s
