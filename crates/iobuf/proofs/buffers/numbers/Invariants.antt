use Rattle.iobuf.specs.Words.{bytes_left}
use Rattle.iobuf.proofs.buffers.numbers.Given as goal

abbrev pub decreases-loop-word : goal.decreases-loop-word
decreases-loop-word l = bytes_left l.words.rest
