use Rattle.std.proofs.Common.{Ok, ap, arith, length, refl, ◌∙◌, ◌+◌, ◌<◌}
use Rattle.iobufs_core.specs.MarkedText.{MarkedText, text_prepend}
use Rattle.iobufs_frames.specs.Frames.{Parts, header_written}
use Rattle.iobufs_frames.specs.Prefixes.{own_view}
use Rattle.iobufs_frames.proofs.LayoutFacts.{header_long}
use Rattle.iobufs_frames.proofs.PrefixFacts.{prefix_long}
use Rattle.iobufs_frames.proofs.PrefixLaws.{bytes-prepend, copied}
use Rattle.iobufs_frames.proofs.lengths.framed_with_layout.Goals as goal

pub returns : goal.returns
returns c =
    let layout = c.args.layout in
    let body = c.args.body in
    let n = length body.bytes in
    let frame : Parts = record { before = c.args.before.now; after = c.args.after.now; body = body.bytes } in
    let (size, head) = rw c.len.ensures.value at c.in-Some.ensures in
    let header = header_written layout frame in
    let some : 0 < length header =
    omega (arith, header_long layout frame size.before_fits size.after_fits, prefix_long layout.prefix (n + layout.counts) size.small) in
    let view = copied header c.as_slice.result.now (Ok c.in-Ok.header) (c.as_slice.ensures ∙ head body.bytes refl) some
    c.in-Ok.ensures.ok in
    let done = c.in-Ok-prepend.ensures.added.0 ∙ ap (text_prepend body) view in
    (size, done, ap (λ (t : MarkedText). t.bytes) done ∙ bytes-prepend body (own_view header))
