use Rattle.std.proofs.Common.{Ok, Option, subst}
use Rattle.iobufs_core.specs.View.{View}
use Rattle.iobufs_frames.proofs.FrameLaws.{moved_one}
use Rattle.iobufs_frames.specs.Frames.{TakesFirst}
use Rattle.iobufs_frames.proofs.Frames.move_frame.Goals as goal

pub returns-in_ok-push-in-Ok-Some-clause-moved : goal.returns-in_ok-push-in-Ok-Some-clause-moved
returns-in_ok-push-in-Ok-Some-clause-moved c =
    (moved_one c.args.self.now.layout c.args.range.now c.args.self.now.rest.bytes c.next.new.self.rest.bytes c.in-Ok-Some.body
    c.args.found.now.items c.push.new.self.items
    (subst (λ (o : Option View). TakesFirst c.args.self.now.layout c.args.range.now c.args.self.now.rest.bytes (Ok o)
    c.next.new.self.rest.bytes)
    c.in-Ok-Some.field-0-is c.in-Ok-Some.ensures.next) c.in_ok-push-in-Ok-Some.ensures.items).0

pub returns-in_ok-push-in-Ok-Some-clause-shorter : goal.returns-in_ok-push-in-Ok-Some-clause-shorter
returns-in_ok-push-in-Ok-Some-clause-shorter c =
    (moved_one c.args.self.now.layout c.args.range.now c.args.self.now.rest.bytes c.next.new.self.rest.bytes c.in-Ok-Some.body
    c.args.found.now.items c.push.new.self.items
    (subst (λ (o : Option View). TakesFirst c.args.self.now.layout c.args.range.now c.args.self.now.rest.bytes (Ok o)
    c.next.new.self.rest.bytes)
    c.in-Ok-Some.field-0-is c.in-Ok-Some.ensures.next) c.in_ok-push-in-Ok-Some.ensures.items).1
