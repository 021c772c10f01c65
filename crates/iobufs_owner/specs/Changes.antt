-- The small changes of a state, with their replies.
--     Outcome, refused, done                   a reply and the state after it; a refusal and a plain success
--     on_lent                                  the outcome of a call on its handle, or its refusal
--     edited, state_without, replaced          another handle under a number, none, or either
--     with_handle, made                        one handle more, and its number as the reply
--     called, unfinished_call                  a thread's call from now on; and with `More` as the reply
--     with_block, with_record, next_record     one block more, one record more, and the number that this gets
--     counted, with_count, tables_without      another count for a record, in the tables and in the state; a record
--                                              that is dead
--     block_freed, record_freed, both_freed    an entry in the log of freed blocks, of freed records, in both
--     detached_handle, part                    a view that holds no block, and a view of a range of another one
use Rattle.std.specs.Prelude.{ℕ, ◌+◌, ◌-◌, true, false, [], ◌∷◌, ◌++◌, length, Option, None, Some, Result, Ok, Err, slice_set}
use Rattle.iobufs_owner.specs.Types.{Block, Freed, Handle, View, Word, Empty, Pending, Refusal, Reply, Made, More, Done, Refused}
use Rattle.iobufs_owner.specs.State.{State, Tables, block_at, record_at, triple}

-- a reply, and the state after it
pub record Outcome : Type 0 where
  pub reply : Reply
  pub state : State

-- a refusal that changes nothing
abbrev pub refused : State → Refusal → Outcome
refused s why = record { reply = Refused why; state = s }

-- the outcome of a call on its handle, or its refusal
abbrev pub on_lent : State → Result Handle Refusal → (Handle → Outcome) → Outcome
on_lent s (Err why) f = refused s why
on_lent s (Ok x) f = f x

abbrev pub done : State → Outcome
done s = record { reply = Done; state = s }

-- ---- small changes

-- the handle is another from now on
abbrev pub edited : State → ℕ → Handle → State
edited s h x = record s { handles = slice_set s.handles h (Some x) }

-- the handle is gone
abbrev pub state_without : State → ℕ → State
state_without s h = record s { handles = slice_set s.handles h None }

abbrev pub replaced : State → ℕ → Option Handle → State
replaced s h o = record s { handles = slice_set s.handles h o }

-- one handle more
abbrev pub with_handle : State → Handle → State
with_handle s x = record s { handles = s.handles ++ Some x ∷ [] }

-- one handle more, as the answer
abbrev pub made : State → Handle → Outcome
made s x = record { reply = Made (length s.handles); state = with_handle s x }

-- the thread's call is another from now on, or none
abbrev pub called : State → ℕ → Option Pending → State
called s p c = record s { calls = slice_set s.calls p c }

-- the call is unfinished
abbrev pub unfinished_call : State → ℕ → Pending → Outcome
unfinished_call s p c = record { reply = More; state = called s p (Some c) }

-- one block more
abbrev pub with_block : State → Block → State
with_block s b = record s { tables = record s.tables { blocks = s.tables.blocks ++ b ∷ [] } }

-- one record more, of block b
abbrev pub with_record : State → ℕ → ℕ → State
with_record s n b = record s {
  tables = record s.tables { records = s.tables.records ++ record { count = n; block = b; live = true } ∷ [] };
}

-- the number of a record that is new
abbrev pub next_record : State → ℕ
next_record s = length s.tables.records

-- another count for a record
abbrev pub counted : Tables → ℕ → ℕ → Tables
counted g r n = record g {
  records = slice_set g.records r (record { count = n; block = (record_at g r).block; live = (record_at g r).live });
}

-- the record is live no more
abbrev pub tables_without : Tables → ℕ → Tables
tables_without g r = record g {
  records = slice_set g.records r (record { count = (record_at g r).count; block = (record_at g r).block; live = false });
}

abbrev pub with_count : State → ℕ → ℕ → State
with_count s r n = record s { tables = counted s.tables r n }

-- a block is freed
abbrev pub block_freed : State → Freed → State
block_freed s f = record s { freed_blocks = s.freed_blocks ++ f ∷ [] }

-- a record is freed
abbrev pub record_freed : State → ℕ → State
record_freed s r = record s { tables = tables_without s.tables r; freed_records = s.freed_records ++ r ∷ [] }

-- a record and its block are freed
abbrev pub both_freed : State → ℕ → State
both_freed s r = block_freed (record_freed s r) (triple (block_at s.tables (record_at s.tables r).block))

-- ---- handles

-- a view without block
abbrev pub detached_handle : ℕ → Handle
detached_handle len = record { kind = View; ptr = 0; len = len; cap = 0; word = Empty }

-- a view of a part of a view
abbrev pub part : Handle → (lo hi : ℕ) → Word → Handle
part x lo hi w = record { kind = View; ptr = x.ptr + lo; len = hi - lo; cap = 0; word = w }
