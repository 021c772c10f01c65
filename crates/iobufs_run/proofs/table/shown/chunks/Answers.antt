use Rattle.std.proofs.Common.{◌≡◌, ℕ, List, length, ap, arith}
use Rattle.iobufs_core.specs.MarkedText.{text_chunks}
use Rattle.iobufs_run.proofs.Chunks.{shown_all, shown_more}
use Rattle.iobufs_run.proofs.table.shown.chunks.Goals as goal

pub loop-chunk-preserved : goal.loop-chunk-preserved
loop-chunk-preserved c =
    let count : c.len.result ≡ length c.loop-chunk.pieces.items = omega (arith, c.len.ensures, c.loop-chunk.pieces.ok.0) in
    let bytes = ap (λ (bytes : List ℕ). (bytes, 0)) c.in_ok-bytes.ensures.items in
    shown_more (λ (chunk : List ℕ). (chunk, 0)) (text_chunks c.args.text.now) c.len.result c.in-Some.chunk.now
    c.loop-chunk.pieces.items c.push.new.self.items _ count c.in-Some.ensures c.in_ok-push.ensures.items bytes c.loop-chunk.invariant

pub returns : goal.returns
returns c =
    let count : c.len.result ≡ length c.loop-chunk.pieces.items = omega (arith, c.len.ensures, c.loop-chunk.pieces.ok.0) in
    shown_all (λ (chunk : List ℕ). (chunk, 0)) (text_chunks c.args.text.now) c.len.result c.loop-chunk.pieces.items
    count c.in_default.ensures c.loop-chunk.invariant
