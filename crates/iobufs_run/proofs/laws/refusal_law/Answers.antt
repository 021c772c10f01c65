use Rattle.iobufs_run.proofs.Choices.{refusals_keep}
use Rattle.iobufs_run.proofs.laws.refusal_law.Goals as goal

pub returns : goal.returns
returns c = refusals_keep
