use Rattle.std.proofs.Common.{ap, length, drop, take, ◌≡◌, ◌+◌, ◌∙◌, List, ℕ}
use Rattle.iobufs_core.specs.View.{View}
use Rattle.iobufs_core.specs.WireLaws.{view_of_bytes-bytes}
use Rattle.iobufs_frames.proofs.LayoutFacts.{has_frame, sized, whole_taken}
use Rattle.iobufs_frames.specs.Frames.{is_any}
use Rattle.iobufs_frames.specs.Receiving.{ReceivedBytes}
use Rattle.iobufs_frames.proofs.block.Received.next_whole.Goals as goal

pub returns-in-Ok-clause-next : goal.returns-in-Ok-clause-next
returns-in-Ok-clause-next c =
    let l = c.in-Some.length in
    let s = c.in-Some-2.parts in
    let layout = c.args.self.now.layout in
    let bytes = c.args.self.now.bytes in
    let same : c.self.inside.block.items ≡ bytes = ap (λ (r : ReceivedBytes). r.bytes) c.self.view_is in
    let is = sized layout c.self.inside.layout c.args.range.now bytes l.value l.len s.header s.body _
    (ap (λ (r : ReceivedBytes). r.layout) c.self.view_is) (rw c.in-Some.is at c.in_ok-length.ensures.found)
    c.in_ok-parts.ensures.inside (rw c.in-Some-2.is at c.in_ok-parts.ensures.header) (rw c.in-Some-2.is at c.in_ok-parts.ensures.body)
    (rw c.in-Some-2.is at c.in_ok-parts.ensures.whole) (c.len.ensures.value ∙ ap (λ (w : List ℕ). length w) same) in
    let size = s.header + s.body in
    whole_taken layout c.args.range.now bytes c.take.new.self.bytes c.in-Ok.frame.bytes l.value s.header s.body is
    (ap (λ (v : View). v.bytes) c.in-Ok.ensures.body ∙ view_of_bytes-bytes (drop 0 (take size c.self.inside.block.items))
    ∙ ap (take size) same)
    (c.in-Ok.ensures.rest ∙ ap (drop size) same)

pub returns-in-Err-clause-next : goal.returns-in-Err-clause-next
returns-in-Err-clause-next c =
    let l = c.in-Some.length in
    let s = c.in-Some-2.parts in
    let layout = c.args.self.now.layout in
    let bytes = c.args.self.now.bytes in
    let is = sized layout c.self.inside.layout c.args.range.now bytes l.value l.len s.header s.body _
    (ap (λ (r : ReceivedBytes). r.layout) c.self.view_is) (rw c.in-Some.is at c.in_ok-length.ensures.found)
    c.in_ok-parts.ensures.inside (rw c.in-Some-2.is at c.in_ok-parts.ensures.header) (rw c.in-Some-2.is at c.in_ok-parts.ensures.body)
    (rw c.in-Some-2.is at c.in_ok-parts.ensures.whole)
    (c.len.ensures.value ∙ ap (λ (r : ReceivedBytes). length r.bytes) c.self.view_is) in (
      has_frame is_any layout c.args.range.now bytes l.value s.header s.body is tt,
      ap (λ (r : ReceivedBytes). r.bytes) (c.in-Err.ensures.unchanged ∙ c.self.view_is),
    )
