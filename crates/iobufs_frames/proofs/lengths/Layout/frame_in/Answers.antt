use Rattle.std.proofs.Common.{drop, refl, rules, take, ◌+◌}
use Rattle.iobufs_frames.proofs.LayoutFacts.{sized, whole_taken}
use Rattle.iobufs_frames.proofs.lengths.Layout.frame_in.Goals as goal

pub returns-in_err-length-clause-first : goal.returns-in_err-length-clause-first
returns-in_err-length-clause-first c = (c.args.bytes.now, search rules)

pub returns-in_err-parts-clause-first : goal.returns-in_err-parts-clause-first
returns-in_err-parts-clause-first c = (c.args.bytes.now, search rules)

pub returns-clause-first : goal.returns-clause-first
returns-clause-first c =
    let l = c.in-Some.length in
    let s = c.in-Some-2.parts in
    let bytes = c.args.bytes.now in
    let is = sized c.args.self c.args.self c.args.range.now bytes l.value l.len s.header s.body _ refl
    (rw c.in-Some.is at c.in_ok-length.ensures.found) c.in_ok-parts.ensures.inside (rw c.in-Some-2.is at c.in_ok-parts.ensures.header)
    (rw c.in-Some-2.is at c.in_ok-parts.ensures.body) (rw c.in-Some-2.is at c.in_ok-parts.ensures.whole) refl in
    let size = s.header + s.body in
    let left = drop size bytes in
    (left, whole_taken c.args.self c.args.range.now bytes left (take size bytes) l.value s.header s.body is refl refl)
