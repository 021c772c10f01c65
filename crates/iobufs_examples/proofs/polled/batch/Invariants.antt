use Rattle.std.proofs.Common.{◌≡◌, ◌++◌, map}
use Rattle.std.specs.Io.Slices.{io_slice_bytes}
use Rattle.iobufs_examples.proofs.polled.batch.Given as goal

abbrev pub invariant-loop-chunk : goal.invariant-loop-chunk
invariant-loop-chunk l =
    map io_slice_bytes l.slices.items ++ map (λ chunk. chunk.now) l.chunk-iterator.rest.items ≡ map
    (λ chunk. chunk.now) l.initial.chunk-iterator.rest.items
