use Rattle.iobufs_owner.proofs.WorldSteps.{find}
use Rattle.iobufs_owner.proofs.laws.room_law.Goals as goal

pub returns : goal.returns
returns c = λ m next steps replies r memory few. find m steps replies next r memory few
