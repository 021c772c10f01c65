use Rattle.std.proofs.Common.{◌+◌, arith, ap, sym, ◌∙◌, length, length-append, map, take, drop}
use Rattle.std.specs.Option.{option_copied}
use Rattle.std.proofs.lemmas.Grind.{common_steps}
use Rattle.std.proofs.lemmas.Option.{slice_get_within}
use Rattle.iobufs.specs.Parts.{parts_chunks}
use Rattle.iobufs_c.proofs.Chunks.{chunks_more, chunks_same, chunks_split, counted, first_chunks, lengths_more, rest_more}
use Rattle.iobufs_c.proofs.parts.fill_chunks.Goals.{then-not-is_empty, else-not-is_empty}
use Rattle.iobufs_c.proofs.parts.fill_chunks.Goals as goal

pub loop-count-preserved : goal.loop-count-preserved
loop-count-preserved c =
    let inv = c.loop-count.invariant in
    let i = c.loop-count.i in
    let n = c.loop-count.count in
    let parts = c.args.parts.now in
    let at = rw inv.same at (sym c.part_at.ensures ∙ ap option_copied c.in-Some.is) in
    let there = slice_get_within parts i c.in-Some.part.now at in
    elim c.if-not-is_empty.branch [
      | then-not-is_empty w ↦ rw w.out-is (rw w.count-is (rw w.parts-is (record {
        same = w.chunk_at.ensures.same ∙ inv.same;
        size = grind (arith, common_steps, inv.size);
        within = grind (arith, common_steps);
        parts = omega (arith, there);
        lengths = lengths_more (λ chunk. chunk.len) c.loop-count.out (parts_chunks (take i parts)) (parts_chunks (take
            (i + 1) parts)) n w.chunk_at.result c.in-Some.part.now.filled c.loop-count-test.true (w.chunk_at.ensures.len
            ∙ w.len-len.ensures) (chunks_more parts i c.in-Some.part.now at
            (sym c.is_empty.ensures ∙ w.if-not-is_empty.true)) inv.lengths;
        rest = rest_more c.loop-count.out c.args.out.now n w.chunk_at.result (omega arith) inv.rest;
      })))
      | else-not-is_empty w ↦ rw w.out-is (rw w.count-is (rw w.parts-is (record {
        same = inv.same;
        size = inv.size;
        within = inv.within;
        parts = omega (arith, there);
        lengths = inv.lengths ∙ ap (λ pieces. map length pieces) (sym (chunks_same parts i c.in-Some.part.now at (sym c.is_empty.ensures
            ∙ w.if-not-is_empty.false)));
        rest = inv.rest;
      })))
    ]

pub returns-after-loop-count-clause-count : goal.returns-after-loop-count-clause-count
returns-after-loop-count-clause-count c =
    let inv = c.loop-count.invariant in
    let so_far = parts_chunks (take c.loop-count.i c.args.parts.now) in
    let count = counted (λ chunk. chunk.len) c.loop-count.out so_far c.loop-count.count inv.within inv.lengths in
    let all = ap length (chunks_split c.args.parts.now c.loop-count.i)
    ∙ length-append so_far (parts_chunks (drop c.loop-count.i c.args.parts.now)) in
    omega (arith, inv.size, inv.within, c.loop-count-test.false, count, all)

pub returns-after-loop-count-clause-lengths : goal.returns-after-loop-count-clause-lengths
returns-after-loop-count-clause-lengths c =
    let inv = c.loop-count.invariant in
    let count = counted (λ chunk. chunk.len) c.loop-count.out
    (parts_chunks (take c.loop-count.i c.args.parts.now)) c.loop-count.count inv.within inv.lengths in
    inv.lengths ∙ ap (λ pieces. map length pieces) (sym (first_chunks c.args.parts.now c.loop-count.i c.loop-count.count count))
