use Rattle.std.proofs.Common.{◌∙◌, ap, take}
use Rattle.std.proofs.lemmas.List.{take-append-le}
use Rattle.iobufs_examples.proofs.pool.pool_law.Goals as goal

pub returns : goal.returns
returns c = λ before after given logs few. ap (λ l. take given l) logs.0.1 ∙ take-append-le given before.freed_blocks logs.0.0 few
