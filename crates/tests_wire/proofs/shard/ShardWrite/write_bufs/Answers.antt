use Rattle.std.proofs.Common.{[], ◌∷◌}
use Rattle.std.specs.Int.{w16, w32, to_be_bytes}
use Rattle.iobufs_core.specs.Items.{put_item}
use Rattle.iobufs_core.specs.Wire.{view_written}
use Rattle.iobufs_core.proofs.CallerFacts.{begun_behind, on_err_always}
use Rattle.tests_wire.proofs.shard.ShardWrite.write_bufs.Goals as goal

pub returns-in_err-write_bufs-clause-begun : goal.returns-in_err-write_bufs-clause-begun
returns-in_err-write_bufs-clause-begun g c =
    let shard = c.args.self.now in
    let id = to_be_bytes w16 shard.id in
    let put = g.met.B.BufsMut.puts _ _ id c.put_u16.ensures in
    let after = g.met.B.BufsMut.adds _ _ (put_item id ∷ []) put in
    let begun = begun_behind (g.B.BufsMut.joined c.args.buf.now) id (view_written shard.body) (to_be_bytes w32 shard.sum) _ _ after
    c.in_err-write_bufs.ensures.begun in
    on_err_always c.from_residual.result begun

pub returns-clause-ok : goal.returns-clause-ok
returns-clause-ok g c =
    let front = g.met.B.BufsMut.follows _ _ _ _ _ (g.met.B.BufsMut.puts _ _ _ c.put_u16.ensures) c.in_ok-write_bufs.ensures.ok in
    g.met.B.BufsMut.follows _ _ _ _ _ front (g.met.B.BufsMut.puts _ _ _ c.put_u32.ensures)
