use Rattle.iobufs_owner.proofs.WorldSteps.{ends-in-four, near-start}
use Rattle.iobufs_owner.proofs.laws.ends_law.Goals as goal

pub returns : goal.returns
returns c = λ s next steps replies r p. ends-in-four s next p _ steps replies r (near-start s p)
