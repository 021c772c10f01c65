use Rattle.iobufs_owner.proofs.WorldSteps.{told}
use Rattle.iobufs_owner.proofs.laws.cause_law.Goals as goal

pub returns : goal.returns
returns c = λ w next step reply s. (told w next step reply s).1
