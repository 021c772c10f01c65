use Rattle.iobufs.proofs.Text.{AreFull, AreViews, deque_len, fold, length, map, of_pieces, of_view, part_frozen, parts_capacity, pieces_bytes, text_append, ◌+◌, ◌<◌, ◌^◌, ◌≡◌, ◌≤◌}
use Rattle.iobufs.proofs.bufs_mut.several.freeze_behind.Given as goal

-- the parts that are left make the same text of what there is, and fit
abbrev pub invariant-loop-part : goal.invariant-loop-part
invariant-loop-part l = record {
  so_far : fold text_append (of_pieces l.row.views) (map part_frozen l.parts.items) ≡ fold text_append (of_view l.fn.first)
      (map part_frozen l.fn.parts.items);
  fits : length (pieces_bytes l.row.views) + parts_capacity l.parts.items < 2 ^ 64;
  room : length l.row.views + length l.parts.items ≤ l.row.room;
  full : AreFull l.row.views;
  roomy : AreViews l.row.views;
  some : 0 < length l.row.views;
}

abbrev pub decreases-loop-part : goal.decreases-loop-part
decreases-loop-part l = deque_len l.parts
