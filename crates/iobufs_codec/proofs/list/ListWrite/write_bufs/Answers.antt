use Rattle.std.proofs.Common.{List, subst}
use Rattle.std.proofs.lemmas.Result.{on_ok_weaker}
use Rattle.std.specs.Result.{OnOk}
use Rattle.iobufs_codec.specs.Listed.{list_items}
use Rattle.iobufs_codec.proofs.list.ListWrite.write_bufs.Goals as goal

pub returns-clause-ok : goal.returns-clause-ok
returns-clause-ok g c =
    let done = on_ok_weaker _ (λ second. g.met.B.BufsMut.follows _ _ _ _ _ c.in_ok-write_bufs.ensures.ok second)
    c.write_each_bufs.ensures.ok in
    let new = c.write_each_bufs.new.buf in
    subst (λ (xs : List g.row.T.Denot). OnOk c.write_each_bufs.result
    (g.B.BufsMut.done c.args.buf.now (list_items g.T.EncodeSize.items xs) new))
    c.as_slice-values.ensures.value done
