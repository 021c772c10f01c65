-- Whether handles read or write, and what a call may have.
--     same_kind, is_mut    two kinds are alike; a handle writes
--     asked                the entry under a number, for a call that requires it
use Rattle.std.specs.Prelude.{Bool, true, false, Option, None, Some, Result, Ok, Err, if◌then◌else◌}
use Rattle.iobufs_owner.specs.Types.{Kind, View, Mut, Refusal, NoHandle, WrongKind, Borrowed}

abbrev pub same_kind : Kind → Kind → Bool
same_kind View View = true
same_kind Mut Mut = true
same_kind kind other = false

abbrev pub is_mut : Kind → Bool
is_mut View = false
is_mut Mut = true

-- the entry under a number, if it passes the test and isn't borrowed; or the first cause against it
abbrev pub asked : {X : Type 0} → (X → Bool) → Bool → Option X → Result X Refusal
asked test borrowed None = Err NoHandle
asked test borrowed (Some x) = if test x then (if borrowed then Err Borrowed else Ok x) else Err WrongKind
