use Rattle.std.proofs.Common.{arith}
use Rattle.iobufs_core.specs.Spelled.{spell_begins, spell-last, spell-more}
use Rattle.iobufs_core.proofs.codec.length.spelling_law.Goals as goal

pub returns : goal.returns
returns c = record {
  last = λ small. spell-last c.args.n small;
  more = λ big. spell-more c.args.n big (omega arith);
  no_front = λ x y. spell_begins c.args.n c.args.m x y (omega arith) (omega arith);
}
