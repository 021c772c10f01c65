use Rattle.iobufs.proofs.Text.{deque_len, length, parts_capacity, parts_filled, parts_frozen, ◌<◌, ◌^◌, ◌≡◌}
use Rattle.iobufs.proofs.bufs_mut.several.Several.freeze.Given as goal

-- the parts that went held no bytes
abbrev pub invariant-loop-part : goal.invariant-loop-part
invariant-loop-part l = record {
  so_far : parts_frozen l.row.items ≡ parts_frozen l.fn.self;
  fits : parts_capacity l.row.items < 2 ^ 64;
  bytes : length (parts_filled l.row.items) ≡ l.len;
}

abbrev pub decreases-loop-part : goal.decreases-loop-part
decreases-loop-part l = deque_len l.row
