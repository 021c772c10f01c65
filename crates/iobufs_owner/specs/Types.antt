-- The types of the machine, as specs and proofs name them.
pub use Rattle.iobufs_owner.specs.declared.owner.types.Block.{Block}
pub use Rattle.iobufs_owner.specs.declared.owner.types.Kind.TheVariants.{View, Mut}
pub use Rattle.iobufs_owner.specs.declared.owner.types.Call.{Call}
pub use Rattle.iobufs_owner.specs.declared.owner.types.Call.TheVariants.{New, External, Static, Put, Advance, Freeze, TryIntoMut, SplitTo, IsUnique, Demote, Clone, Slice, Drop}
pub use Rattle.iobufs_owner.specs.declared.owner.types.Act.{Act}
pub use Rattle.iobufs_owner.specs.declared.owner.types.Act.TheVariants.{Begin, Go}
pub use Rattle.iobufs_owner.specs.declared.owner.types.Step.{Step}
pub use Rattle.iobufs_owner.specs.declared.owner.types.Refusal.{Refusal}
pub use Rattle.iobufs_owner.specs.declared.owner.types.Refusal.TheVariants.{Busy, Idle, OutOfRange, BadPlace, Memory, Ceiling, Room, NoHandle, WrongKind, Borrowed}
pub use Rattle.iobufs_owner.specs.declared.owner.types.Reply.{Reply}
pub use Rattle.iobufs_owner.specs.declared.owner.types.Reply.TheVariants.{Refused, Made, More, Done, Declined, Unique}
pub use Rattle.iobufs_owner.specs.declared.owner.types.Freed.{Freed}
pub use Rattle.iobufs_owner.specs.declared.owner.types.Handle.{Handle}
pub use Rattle.iobufs_owner.specs.declared.owner.types.Word.{Word}
pub use Rattle.iobufs_owner.specs.declared.owner.types.Word.TheVariants.{Empty, Descriptor, Record as Counted}
pub use Rattle.iobufs_owner.specs.declared.owner.types.Pending.{Pending}
pub use Rattle.iobufs_owner.specs.declared.owner.types.Kind.{Kind}
pub use Rattle.iobufs_owner.specs.declared.owner.types.Pending.TheVariants.{Loaded, Ready, Add, Subtract, Release}
pub use Rattle.iobufs_owner.specs.declared.owner.types.Share.{Share}
pub use Rattle.iobufs_owner.specs.declared.owner.types.Full.{Full}
pub use Rattle.iobufs_owner.specs.declared.owner.types.Record.{Record}
