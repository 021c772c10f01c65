use Rattle.iobufs_owner.proofs.WorldSteps.{tells-tables}
use Rattle.iobufs_owner.proofs.laws.tables_law.Goals as goal

pub returns : goal.returns
returns c = λ m next steps replies r. tells-tables m steps replies next r
