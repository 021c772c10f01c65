use Rattle.std.proofs.Common.{take}
use Rattle.std.specs.Io.Slices.{io_slice_bytes}
use Rattle.iobufs.proofs.CallerFacts.{written_front, written_within}
use Rattle.iobufs.proofs.bufs.IoBufs.write_front.Goals as goal

pub returns-clause-bound : goal.returns-clause-bound
returns-clause-bound g c =
    let slices = take c.fill_slices-count.result c.fill_slices-count.new.dst in
    written_within io_slice_bytes slices c.args.self.now 64 c.write_chunks_again.result c.fill_slices-count.ensures.chunks
    c.write_chunks_again.ensures.bound

pub returns-clause-bytes : goal.returns-clause-bytes
returns-clause-bytes g c =
    let slices = take c.fill_slices-count.result c.fill_slices-count.new.dst in
    let contents = g.W.Write.contents in
    written_front io_slice_bytes slices c.args.self.now 64 (contents c.args.to.now) (contents c.write_chunks_again.new.to)
    c.write_chunks_again.result c.fill_slices-count.ensures.chunks c.write_chunks_again.ensures.bound c.write_chunks_again.ensures.bytes
