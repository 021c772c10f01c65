use Rattle.std.proofs.Common.{◌++◌, List, length, length-append, ap, arith}
use Rattle.std.specs.List.{flat_map}
use Rattle.iobufs_core.specs.SeveralLaws.{inline_few}
use Rattle.iobufs_core.specs.Spelling.{spell}
use Rattle.iobufs_codec.specs.Listed.{joins_each}
use Rattle.iobufs_codec.proofs.list.ListEncodeSize.encode_inline_size.Goals as goal

pub overflow_add-result : goal.overflow_add-result
overflow_add-result g c =
    let w = g.T.EncodeSize.written in
    let items = g.T.EncodeSize.items in
    let xs = c.as_slice-values.result.now in
    let few = inline_few (flat_map items xs) in
    let all = ap length (joins_each w items g.met.T.EncodeSize.joins_items xs) in
    omega (
      arith,
      few,
      all,
      length-append (spell (length xs)) (flat_map w xs),
      ap (λ (ys : List g.row.T.Denot). length (spell (length ys) ++ flat_map w ys)) c.as_slice-values.ensures.value,
      c.requires,
      c.encode_inline_size.ensures,
      c.each_inline_size.ensures,
    )
