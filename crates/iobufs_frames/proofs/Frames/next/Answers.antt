use Rattle.std.proofs.Common.{ap, arith, inl, inr, ◌∙◌, ◌≡◌, ◌-◌, drop, refl}
use Rattle.std.proofs.lemmas.Bool.{false≢true}
use Rattle.iobufs_core.proofs.LengthFacts.{less}
use Rattle.iobufs_core.specs.MarkedText.{MarkedText, taken_view}
use Rattle.iobufs_core.specs.View.{static_mark}
use Rattle.iobufs_frames.specs.Frames.{IsCutFrom, IsAtFront, Parts}
use Rattle.iobufs_frames.specs.Prefixes.{header_size}
use Rattle.iobufs_frames.proofs.PrefixFacts.{one_length}
use Rattle.iobufs_frames.proofs.LayoutFacts.{has_body, sized}
use Rattle.iobufs_frames.proofs.PrefixLaws.{taken-with}
use Rattle.iobufs_frames.proofs.Frames.next.Goals as goal

-- the body that was taken
taken : (c : goal.In-Ok)
    → ((frame : Parts) × IsAtFront c.args.self.now.layout c.args.range.now c.args.self.now.rest.bytes
    c.take_owned_after.new.self.bytes frame
    × (frame.body ≡ c.in-Ok.body.bytes))
    × IsCutFrom c.args.self.now.layout c.args.self.now.rest c.take_owned_after.new.self c.in-Ok.body
taken c =
    let layout = c.args.self.now.layout in
    let l = c.in-Some.found in
    let s = c.in-Some-2.sizes in
    let is = sized layout layout c.args.range.now c.args.self.now.rest.bytes l.value l.len s.header s.body _ refl
    (rw c.in-Some.is at c.in_ok-found.ensures.found) c.in_ok-sizes.ensures.inside (rw c.in-Some-2.is at c.in_ok-sizes.ensures.header)
    (rw c.in-Some-2.is at c.in_ok-sizes.ensures.body) (rw c.in-Some-2.is at c.in_ok-sizes.ensures.whole) c.len.ensures.value in
    taken-with layout c.args.range.now c.args.self.now.rest c.take_owned_after.new.self l.value s.header s.body c.in-Ok.body is
    c.in-Ok.ensures.ok c.in-Ok.ensures.rest

pub returns-in-Ok-clause-next : goal.returns-in-Ok-clause-next
returns-in-Ok-clause-next c = (taken c).0

pub returns-in-Ok-clause-left : goal.returns-in-Ok-clause-left
returns-in-Ok-clause-left c = (refl, (taken c).1)

pub returns-in-Err-clause-next : goal.returns-in-Err-clause-next
returns-in-Err-clause-next c =
    let layout = c.args.self.now.layout in
    let l = c.in-Some.found in
    let s = c.in-Some-2.sizes in
    let is = sized layout layout c.args.range.now c.args.self.now.rest.bytes l.value l.len s.header s.body _ refl
    (rw c.in-Some.is at c.in_ok-found.ensures.found) c.in_ok-sizes.ensures.inside (rw c.in-Some-2.is at c.in_ok-sizes.ensures.header)
    (rw c.in-Some-2.is at c.in_ok-sizes.ensures.body) (rw c.in-Some-2.is at c.in_ok-sizes.ensures.whole) c.len.ensures.value in
    elim (less 0 s.body) [
      | inl some ↦ (
        has_body layout c.args.range.now c.args.self.now.rest.bytes l.value s.header s.body is some,
        ap (λ (t : MarkedText). t.bytes) c.in-Err.ensures.unchanged,
      )
      | inr none ↦ absurd (false≢true (c.in-Err.ensures.nothing (omega (arith, none))))
    ]

pub returns-in-Err-clause-static_text : goal.returns-in-Err-clause-static_text
returns-in-Err-clause-static_text c (n, at, static) =
    let l = c.in-Some.found in
    let s = c.in-Some-2.sizes in
    let text = c.args.self.now.rest in
    let layout = c.args.self.now.layout in
    let (there, long, within) = rw c.in-Some.is at c.in_ok-found.ensures.found in
    let header = rw c.in-Some-2.is at c.in_ok-sizes.ensures.header in
    let body = rw c.in-Some-2.is at c.in_ok-sizes.ensures.body in
    let same : n ≡ l.value = one_length layout.prefix (drop layout.before text.bytes) n l.value at there in
    let front : s.header ≡ header_size layout n = omega (arith, header, long, ap (header_size layout) same) in
    let count : s.body ≡ n - layout.counts = omega (arith, body, same) in
    let mark : (taken_view text s.header s.body).mark ≡ static_mark = (λ i. (taken_view text (front i) (count i)).mark) ∙ static in
    λ _. absurd (false≢true (c.in-Err.ensures.static_text mark tt))
