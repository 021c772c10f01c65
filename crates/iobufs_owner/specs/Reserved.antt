-- When a step isn't refused for a full table.
--     RoomFor                    within these numbers of entries there is space for this many blocks, handles and records
--                                more
--     limit                      how many entries a table has at most
--     new_blocks, blocks_of      how many blocks a step adds at most, and a run
use Rattle.std.specs.Prelude.{ℕ, ◌+◌, ◌^◌, ◌<◌, ◌≤◌, List, [], ◌∷◌, length}
use Rattle.iobufs_owner.specs.Types.{New, External, Act, Begin, Step}
use Rattle.iobufs_owner.specs.State.{State, Room}

-- room for so many entries more in each table; where no block is added nothing is asked of theirs
pub record RoomFor (room : Room) (s : State) (more_blocks more_handles more_records : ℕ) : Type 0 where
  pub blocks : 0 < more_blocks → length s.tables.blocks + more_blocks ≤ room.blocks
  pub handles : length s.handles + more_handles ≤ room.handles
  pub records : length s.tables.records + more_records ≤ room.records

-- a table has so many entries at most, whatever memory it has
abbrev pub limit : Room
limit = record { blocks = 2 ^ 32; handles = 2 ^ 32; records = 2 ^ 32 }

-- how many blocks a step adds, if it succeeds
abbrev pub new_blocks : Act → ℕ
new_blocks (Begin (New base size align) memory) = 1
new_blocks (Begin (External base size) memory) = 1
new_blocks act = 0

-- how many blocks a run may add
abbrev pub blocks_of : List Step → ℕ
blocks_of [] = 0
blocks_of (step ∷ steps) = new_blocks step.act + blocks_of steps
