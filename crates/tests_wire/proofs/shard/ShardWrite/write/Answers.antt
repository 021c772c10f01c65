use Rattle.tests_wire.proofs.shard.ShardWrite.write.Goals as goal

pub returns : goal.returns
returns g c =
    let front = g.met.B.BufMut.composes _ _ _ _ _ c.put_u16.ensures c.write.ensures in
    g.met.B.BufMut.composes _ _ _ _ _ front c.put_u32.ensures
