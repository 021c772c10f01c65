use Rattle.std.proofs.Common.{ap, arith, length, length-take}
use Rattle.iobufs_examples.proofs.WebLaws.{chunk_taken}
use Rattle.iobufs_examples.proofs.web.ChunkBody.next_chunk.Goals as goal

pub returns : goal.returns
returns c =
    chunk_taken c.args.self.now.text c.copy_to_bytes.new.self (length c.chunk-n.result.now) c.copy_to_bytes.result
    (omega (arith, ap length c.chunk-n.ensures.front.front, length-take (length c.chunk-n.result.now) c.args.self.now.text.bytes))
    (omega (arith, c.if-n-eq0.false))
    c.copy_to_bytes.ensures.ok c.copy_to_bytes.ensures.rest c.copy_to_bytes.ensures.unchanged c.copy_to_bytes.ensures.memory
