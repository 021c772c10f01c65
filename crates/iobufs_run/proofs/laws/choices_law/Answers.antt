use Rattle.iobufs_run.proofs.Choices.{no_other_choices, only_wants}
use Rattle.iobufs_run.proofs.laws.choices_law.Goals as goal

pub returns-clause-same : goal.returns-clause-same
returns-clause-same c = no_other_choices

pub returns-clause-memory : goal.returns-clause-memory
returns-clause-memory c = only_wants
