use Rattle.std.proofs.Common.{◌≡◌, length}
use Rattle.iobufs.specs.Parts.{parts_filled}
use Rattle.iobufs_bench.proofs.lists.overwrite_turns.Given as goal

abbrev pub invariant-turns : goal.invariant-turns
invariant-turns l = length l.source ≡ length (parts_filled l.list)
