use Rattle.std.proofs.Common.{◌≡◌, ◌∙◌, length, arith}
use Rattle.iobufs_core.specs.Part.{Part}
use Rattle.iobufs_run.proofs.Chunks.{shown_all, shown_more}
use Rattle.iobufs_run.proofs.table.shown.parts_shown.Goals as goal

pub loop-part-preserved : goal.loop-part-preserved
loop-part-preserved c =
    let count : c.len.result ≡ length c.loop-part.pieces.items = omega (arith, c.len.ensures, c.loop-part.pieces.ok.0) in
    let bytes = c.in_ok-bytes.ensures.items ∙ c.as_ref.ensures in
    let spare = c.remaining_mut-spare.ensures in
    let shown : (c.in_ok-bytes.bytes.items, c.remaining_mut-spare.result) ≡
    (c.in-Some.part.now.filled, c.in-Some.part.now.spare) = λ k. (bytes k, spare k) in
    shown_more (λ (part : Part). (part.filled, part.spare)) c.args.parts.now c.len.result c.in-Some.part.now
    c.loop-part.pieces.items c.push.new.self.items _ count c.in-Some.ensures c.in_ok-push.ensures.items shown c.loop-part.invariant

pub returns : goal.returns
returns c =
    let count : c.len.result ≡ length c.loop-part.pieces.items = omega (arith, c.len.ensures, c.loop-part.pieces.ok.0) in
    shown_all (λ (part : Part). (part.filled, part.spare)) c.args.parts.now c.len.result c.loop-part.pieces.items
    count c.in_default.ensures c.loop-part.invariant
