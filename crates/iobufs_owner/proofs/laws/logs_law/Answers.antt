use Rattle.iobufs_owner.proofs.WorldSteps.{logs-run}
use Rattle.iobufs_owner.proofs.laws.logs_law.Goals as goal

pub returns : goal.returns
returns c = λ s next steps replies r. logs-run s steps replies next r
