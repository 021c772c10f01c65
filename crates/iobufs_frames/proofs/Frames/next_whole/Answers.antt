use Rattle.std.proofs.Common.{ap, arith, length, length-take, List, ℕ, refl, ◌∙◌, ◌≤◌, ◌≡◌, ◌+◌}
use Rattle.iobufs_core.proofs.CallerFacts.{bytes-split_front}
use Rattle.iobufs_core.specs.MarkedText.{MarkedText, text_rest, text_split_front}
use Rattle.iobufs_core.specs.ReadBytes.{bytes-rest}
use Rattle.iobufs_frames.specs.Frames.{is_any}
use Rattle.iobufs_frames.proofs.LayoutFacts.{has_frame, sized, whole_taken}
use Rattle.iobufs_frames.proofs.Frames.next_whole.Goals as goal

pub returns-in-Ok-clause-next : goal.returns-in-Ok-clause-next
returns-in-Ok-clause-next c =
    let layout = c.args.self.now.layout in
    let text = c.args.self.now.rest in
    let l = c.in-Some.length in
    let s = c.in-Some-2.parts in
    let is = sized layout layout c.args.range.now c.args.self.now.rest.bytes l.value l.len s.header s.body _ refl
    (rw c.in-Some.is at c.in_ok-length.ensures.found) c.in_ok-parts.ensures.inside (rw c.in-Some-2.is at c.in_ok-parts.ensures.header)
    (rw c.in-Some-2.is at c.in_ok-parts.ensures.body) (rw c.in-Some-2.is at c.in_ok-parts.ensures.whole) c.len.ensures.value in
    let fits = is.4 in
    whole_taken layout c.args.range.now text.bytes c.split_to.new.self.bytes c.in-Ok.frame.bytes l.value s.header s.body is
    (ap (λ (t : MarkedText). t.bytes) c.in-Ok.ensures.split.0 ∙ bytes-split_front text (s.header + s.body) fits)
    (ap (λ (t : MarkedText). t.bytes) c.in-Ok.ensures.split.1 ∙ bytes-rest text (s.header + s.body) fits)

pub returns-in-Err-clause-next : goal.returns-in-Err-clause-next
returns-in-Err-clause-next c =
    let layout = c.args.self.now.layout in
    let l = c.in-Some.length in
    let s = c.in-Some-2.parts in
    let is = sized layout layout c.args.range.now c.args.self.now.rest.bytes l.value l.len s.header s.body _ refl
    (rw c.in-Some.is at c.in_ok-length.ensures.found) c.in_ok-parts.ensures.inside (rw c.in-Some-2.is at c.in_ok-parts.ensures.header)
    (rw c.in-Some-2.is at c.in_ok-parts.ensures.body) (rw c.in-Some-2.is at c.in_ok-parts.ensures.whole) c.len.ensures.value in (
      has_frame is_any layout c.args.range.now c.args.self.now.rest.bytes l.value s.header s.body is tt,
      ap (λ (t : MarkedText). t.bytes) c.in-Err.ensures.split.0,
    )

pub returns-in-Ok-clause-left : goal.returns-in-Ok-clause-left
returns-in-Ok-clause-left c =
    let text = c.args.self.now.rest in
    let s = c.in-Some-2.parts in
    let size = s.header + s.body in
    let fits : size ≤ length text.bytes = omega (arith, rw c.in-Some-2.is at c.in_ok-parts.ensures.whole, c.len.ensures.value) in
    let long : size ≡ length c.in-Ok.frame.bytes = omega (
      arith,
      fits,
      ap (λ (t : MarkedText). length t.bytes) c.in-Ok.ensures.split.0,
      ap (λ (w : List ℕ). length w) (bytes-split_front text size fits),
      length-take size text.bytes,
    ) in
    (refl, (c.in-Ok.ensures.split.0 ∙ ap (text_split_front text) long, c.in-Ok.ensures.split.1 ∙ ap (text_rest text) long))
