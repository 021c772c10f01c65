use Rattle.std.proofs.Common.{◌≡◌, ◌≤◌, length, map, take, drop, replicate, vec_len, vec_capacity}
use Rattle.iobufs_core.specs.Part.{empty_part}
use Rattle.iobufs_c.proofs.parts.take_row.Given as goal

-- the buffers of the places so far are in the row, and empty ones are left there; the other places are as they were
abbrev pub invariant-loop-i : goal.invariant-loop-i
invariant-loop-i l = record {
  size : length l.places ≡ length l.fn.places;
  row : l.row.items ≡ map (λ place. place.value) (take l.i l.fn.places);
  taken : map (λ place. place.value) (take l.i l.places) ≡ replicate l.i (empty_part 0);
  rest : drop l.i l.places ≡ drop l.i l.fn.places;
  at : map (λ place. place.at) l.places ≡ map (λ place. place.at) l.fn.places;
  few : vec_len l.row ≤ l.i;
  room : length l.fn.places ≤ vec_capacity l.row;
}
