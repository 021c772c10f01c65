use Rattle.tests_wire.proofs.zeros.ZerosWrite.write_bufs.Goals as goal

pub returns-clause-ok : goal.returns-clause-ok
returns-clause-ok g c =
    let front = g.met.B.BufsMut.puts _ _ _ c.put_bytes.ensures in
    g.met.B.BufsMut.follows _ _ _ _ _ front (g.met.B.BufsMut.puts _ _ _ c.put_bytes-2.ensures)
