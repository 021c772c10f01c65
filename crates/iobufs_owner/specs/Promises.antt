-- The guarantees of the machine to its users, after every step of every run.
--     Promises       all of them: counts, sole holders, recovered blocks, and logs that say what is freed, once
--     IsPublished    a live record that its block goes by, and not one that a clone has just made
--     IsFreed        the log says that the block was given back
--     IsExclusive    a handle that has to be the only holder of its block
--     IsOnce         a log without repeats
--     IsOver         all handles are gone, and no call is unfinished
use Rattle.std.specs.Prelude.{◌≡◌, ◌≢◌, ℕ, ◌+◌, ◌<◌, ◌≤◌, ◌||◌, true, false, List, None, Some, length, All, AllPairs}
use Rattle.iobufs_owner.specs.Types.{Handle, Descriptor}
use Rattle.iobufs_owner.specs.State as state
use Rattle.iobufs_owner.specs.State.{State, handle_at, record_at, block_at, owner_of, triple}
use Rattle.iobufs_owner.specs.Sound.{IsTripleOf, hidden, is_descriptor, is_logged}
use Rattle.iobufs_owner.specs.Kinds.{is_mut}
use Rattle.iobufs_owner.specs.World.{holders, users}
use Rattle.iobufs_owner.specs.Reading.{reading, is_freed}

-- a live record that isn't one of an unfinished promotion
pub record IsPublished (s : State) (r : ℕ) : Type 0 where
  pub live : (record_at s.tables r).live ≡ true
  pub shown : hidden s.calls r ≡ 0

-- the log of freed blocks has the block
pub record IsFreed (s : State) (b : ℕ) : Type 0 where
  pub known : b < length s.tables.blocks
  pub logged : is_freed (block_at s.tables b) s.freed_blocks ≡ true

-- a descriptor or a writable handle
abbrev pub IsExclusive : Handle → Type 0
IsExclusive x = (is_descriptor x.word || is_mut x.kind) ≡ true

-- a log without repeats
abbrev pub IsOnce : {X : Type 0} → List X → Type 0
IsOnce log = AllPairs (λ x y. x ≢ y) log

-- no live handle, and no unfinished call
pub record IsOver (s : State) : Type 0 where
  pub handles : All (λ o. o ≡ None) s.handles
  pub calls : All (λ c. c ≡ None) s.calls

pub record Promises (s : State) : Type 0 where
  -- The count of a published record is the number of its block's holders. A block has at most one published record. No
  -- two unfinished promotions have made the same record.
  pub counts : (r : ℕ) → IsPublished s r → (record_at s.tables r).count ≡ holders (reading s) (record_at s.tables r).block
  pub one_record : (q r : ℕ) → IsPublished s q → IsPublished s r → (record_at s.tables q).block ≡ (record_at s.tables r).block → q ≡ r
  pub one_maker : (r : ℕ) → hidden s.calls r ≤ 1
  -- A handle that is writable or has a descriptor is the only holder of its block, if it has one.
  pub exclusive : (h b : ℕ) (x : Handle) → handle_at s h ≡ Some x → owner_of s.tables x ≡ Some b → IsExclusive x → holders (reading s) b ≡ 1
  -- Base, size and alignment recovered from a handle's descriptor are those of the block that the handle holds.
  pub recovered : (h w : ℕ) (x : Handle) → handle_at s h ≡ Some x → x.word ≡ Descriptor w → (b : ℕ) × (b < length s.tables.blocks)
      × (owner_of s.tables x ≡ Some b) × (state.recovered s.tables x w ≡ triple (block_at s.tables b))
  -- The logs have no repeats. Each freed triple is that of a block, each freed number that of a record that isn't live.
  pub blocks_once : IsOnce s.freed_blocks
  pub records_once : IsOnce s.freed_records
  pub blocks_known : All (IsTripleOf s.tables.blocks) s.freed_blocks
  pub records_known : All (λ r. (r < length s.tables.records) × ((record_at s.tables r).live ≡ false)) s.freed_records
  -- No freed block has a holder. A block that no handle holds, and of which no drop is unfinished, is freed. A freed
  -- block's records are freed.
  pub never_held : (b : ℕ) → IsFreed s b → holders (reading s) b ≡ 0
  pub unused_freed : (b : ℕ) → b < length s.tables.blocks → users (reading s) b ≡ 0 → IsFreed s b
  pub records_freed : (r : ℕ) → r < length s.tables.records → IsFreed s (record_at s.tables r).block → is_logged r s.freed_records ≡ true
  -- With no handle and no call left, every block and every record is freed.
  pub none_left : IsOver s → ((b : ℕ) → b < length s.tables.blocks → IsFreed s b)
      × ((r : ℕ) → r < length s.tables.records → is_logged r s.freed_records ≡ true)
  -- A block has at most one holder more than the ceiling.
  pub capped : (b : ℕ) → holders (reading s) b ≤ s.ceiling + 1
