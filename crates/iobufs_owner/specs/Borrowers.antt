-- The fields of the machine's calls.
--     calling_of, CountsBorrowers    the calls that they keep; for each handle the number of calls that borrow it
use Rattle.std.specs.Prelude.{◌≡◌, ℕ, length, slice_index}
use Rattle.iobufs_owner.specs.Lending.{Calling, borrows_it}
use Rattle.iobufs_owner.specs.World.{tally}
use Rattle.iobufs_owner.specs.declared.owner.calls.Calls.TheInside.{Inside}

abbrev pub calling_of : Inside → Calling
calling_of m = record { items = m.pending.items; handles = length m.borrowers.items }

-- each handle's count is that of the calls that borrow it
abbrev pub CountsBorrowers : Inside → Type 0
CountsBorrowers m = (h : ℕ) → slice_index m.borrowers.items h ≡ tally (borrows_it h) m.pending.items
