use Rattle.iobufs_owner.proofs.Soundness.{says-ends}
use Rattle.iobufs_owner.proofs.owner.Machine.recovered.Goals as goal

pub unpack-fields-requires : goal.unpack-fields-requires
unpack-fields-requires c = (says-ends c.self.invariant c.self.view_is c.requires).word

pub end-requires-clause-behind_view : goal.end-requires-clause-behind_view
end-requires-clause-behind_view c = rw c.unpack-fields.ensures.tail (says-ends c.self.invariant c.self.view_is c.requires).view

pub end-requires-clause-behind_room : goal.end-requires-clause-behind_room
end-requires-clause-behind_room c = (says-ends c.self.invariant c.self.view_is c.requires).room
