use Rattle.std.proofs.Common.{ap, arith, inl, inr, length, drop, take, ◌≡◌, ◌+◌, ◌∙◌, List, ℕ}
use Rattle.std.proofs.lemmas.Bool.{false≢true}
use Rattle.iobufs_core.proofs.LengthFacts.{less}
use Rattle.iobufs_core.specs.View.{view_of_bytes}
use Rattle.iobufs_frames.proofs.BlockLaws.{view_taken}
use Rattle.iobufs_frames.proofs.LayoutFacts.{has_body, sized}
use Rattle.iobufs_frames.specs.Receiving.{ReceivedBytes}
use Rattle.iobufs_frames.proofs.block.Received.next.Goals as goal

pub returns-in-Ok-clause-next : goal.returns-in-Ok-clause-next
returns-in-Ok-clause-next c =
    let l = c.in-Some.found in
    let s = c.in-Some-2.sizes in
    let layout = c.args.self.now.layout in
    let bytes = c.args.self.now.bytes in
    let same : c.self.inside.block.items ≡ bytes = ap (λ (r : ReceivedBytes). r.bytes) c.self.view_is in
    let is = sized layout c.self.inside.layout c.args.range.now bytes l.value l.len s.header s.body _
    (ap (λ (r : ReceivedBytes). r.layout) c.self.view_is) (rw c.in-Some.is at c.in_ok-found.ensures.found)
    c.in_ok-sizes.ensures.inside (rw c.in-Some-2.is at c.in_ok-sizes.ensures.header) (rw c.in-Some-2.is at c.in_ok-sizes.ensures.body)
    (rw c.in-Some-2.is at c.in_ok-sizes.ensures.whole) (c.len.ensures.value ∙ ap (λ (w : List ℕ). length w) same) in
    view_taken layout c.args.range.now bytes c.take.new.self.bytes l.value s.header s.body c.in-Ok.body is
    (c.in-Ok.ensures.body ∙ ap (λ w. view_of_bytes (drop s.header (take (s.header + s.body) w))) same)
    (c.in-Ok.ensures.rest ∙ ap (drop (s.header + s.body)) same)

pub returns-in-Err-clause-next : goal.returns-in-Err-clause-next
returns-in-Err-clause-next c =
    let l = c.in-Some.found in
    let s = c.in-Some-2.sizes in
    let layout = c.args.self.now.layout in
    let bytes = c.args.self.now.bytes in
    let is = sized layout c.self.inside.layout c.args.range.now bytes l.value l.len s.header s.body _
    (ap (λ (r : ReceivedBytes). r.layout) c.self.view_is) (rw c.in-Some.is at c.in_ok-found.ensures.found)
    c.in_ok-sizes.ensures.inside (rw c.in-Some-2.is at c.in_ok-sizes.ensures.header) (rw c.in-Some-2.is at c.in_ok-sizes.ensures.body)
    (rw c.in-Some-2.is at c.in_ok-sizes.ensures.whole) (c.len.ensures.value ∙ ap (λ (r : ReceivedBytes). length r.bytes) c.self.view_is) in
    elim (less 0 s.body) [
      | inl some ↦ (
        has_body layout c.args.range.now bytes l.value s.header s.body is some,
        ap (λ (r : ReceivedBytes). r.bytes) (c.in-Err.ensures.unchanged ∙ c.self.view_is),
      )
      | inr none ↦ absurd (false≢true (c.in-Err.ensures.nothing (omega (arith, none))))
    ]
