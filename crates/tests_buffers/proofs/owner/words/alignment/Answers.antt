use Rattle.std.proofs.lemmas.Nat.{one_shl}
use Rattle.tests_buffers.proofs.owner.words.alignment.Goals as goal

pub returns : goal.returns
returns c = (c.args.log, one_shl c.args.log 64 c.requires)
