use Rattle.iobufs.proofs.Text.{List, Segment, View, ap, arith, building_push, length, refl, room_for_pushes, segments_pushed, ◌++◌, ◌-◌, ◌<◌, ◌∙◌, ◌≡◌, ◌≤◌}
use Rattle.iobufs.proofs.Building.{bytes-len, push-kept, pushes-kept}
use Rattle.iobufs.proofs.builder.BuilderBufsMut.push_bytes.Goals as goal

pub returns-in-Err-clause-too_long : goal.returns-in-Err-clause-too_long
returns-in-Err-clause-too_long c =
    let limit = pushes-kept c.self.inside.inline c.self.inside.pushes.segments _ c.self.inside.pushable _
    c.self.invariant.limited c.self.view_is in
    λ (long : room_for_pushes c.args.self.now < length c.args.bytes). c.in-Err.ensures.too_long (omega arith)

pub returns-in-Err-clause-memory : goal.returns-in-Err-clause-memory
returns-in-Err-clause-memory c =
    let limit = pushes-kept c.self.inside.inline c.self.inside.pushes.segments _ c.self.inside.pushable _
    c.self.invariant.limited c.self.view_is in
    λ (fits : length c.args.bytes ≤ room_for_pushes c.args.self.now). c.in-Err.ensures.memory (omega arith)

pub returns-clause-ok : goal.returns-clause-ok
returns-clause-ok c =
    let b = c.self.inside in
    let inv = c.self.invariant in
    let run : c.len.result - b.placed ≡ length b.inline.filled - b.placed = ap (λ n. n - b.placed) c.len.ensures in
    let len = ap (λ (v : View). length v.bytes) c.from-view.ensures ∙ bytes-len c.args.bytes in
    let limit = pushes-kept b.inline b.pushes.segments b.placed b.pushable _ inv.limited c.self.view_is in (
      omega arith,
      omega (arith, limit, c.in_default.ensures.ok.0, bytes-len c.args.bytes),
      push-kept b.inline b.pushes.segments _ b.placed _ _
          (c.len.result - b.placed) c.from-view.result inv.counted inv.within c.self.view_is run
          (omega arith) (c.push.ensures.pushed ∙ ap
          (λ (segments : List Segment). segments ++ segments_pushed (c.len.result - b.placed) c.from-view.result)
          c.make_room.ensures.same) refl
          ∙ ap (building_push c.args.self.now) c.from-view.ensures,
    )

pub returns-clause-too_long : goal.returns-clause-too_long
returns-clause-too_long c =
    let limit = pushes-kept c.self.inside.inline c.self.inside.pushes.segments _ c.self.inside.pushable _
    c.self.invariant.limited c.self.view_is in
    λ (long : room_for_pushes c.args.self.now < length c.args.bytes). c.in_default.ensures.too_long (omega arith)
