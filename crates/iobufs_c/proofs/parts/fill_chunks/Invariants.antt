use Rattle.std.proofs.Common.{◌≡◌, ◌≤◌, ◌-◌, length, map, take, drop}
use Rattle.iobufs.specs.Parts.{parts_chunks}
use Rattle.iobufs_c.proofs.parts.fill_chunks.Given as goal

-- the pieces of the parts so far stand in the list, and the others of the list are as they were; and so are the parts
abbrev pub invariant-loop-count : goal.invariant-loop-count
invariant-loop-count l = record {
  same : l.parts ≡ l.fn.parts;
  size : length l.out ≡ length l.fn.out;
  within : l.count ≤ length l.out;
  parts : l.i ≤ length l.fn.parts;
  lengths : map (λ chunk. chunk.len) (take l.count l.out) ≡ map length (parts_chunks (take l.i l.fn.parts));
  rest : drop l.count l.out ≡ drop l.count l.fn.out;
}

abbrev pub decreases-loop-count : goal.decreases-loop-count
decreases-loop-count l = length l.initial.parts - l.i
