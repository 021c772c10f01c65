use Rattle.iobufs.proofs.Text.{IsShape, kept_parts, parts_capacity, shape_parts, ◌+◌, ◌^◌, ◌≡◌}
use Rattle.iobufs.proofs.bufs_mut.IoBufsMut.from_parts.Given as goal

abbrev pub invariant-loop-part : goal.invariant-loop-part
invariant-loop-part g l = record {
  sum : l.left + parts_capacity l.yielded + 1 ≡ 2 ^ 64;
  built : IsShape l.shape;
  kept : shape_parts l.shape ≡ kept_parts l.yielded;
}
