-- How the machine's tables are read as a world.
--     reading                              the world that a state represents
--     read_held, read_handle, read_call    a handle and a call, as its users see them
--     same_freed, is_freed                 an entry of the log is of this block; one of them is
--     has_let_go                           the drop that frees the record has lowered its count before
use Rattle.std.specs.Prelude.{ℕ, ◌==◌, ◌&&◌, nat_eq, Bool, false, List, Option, None, Some, map}
use Rattle.std.specs.List.{list_any}
use Rattle.iobufs_owner.specs.Types.{Block, Handle, Pending, Loaded, Ready, Add, Subtract, Release, Freed}
use Rattle.iobufs_owner.specs.State.{State, Tables, owner_of, record_at}
use Rattle.iobufs_owner.specs.World.{World, LiveHandle, Unfinished, Sharing, Dropping}

abbrev pub same_freed : Block → Freed → Bool
same_freed b f = (b.base == f.base) && (b.size == f.size) && (b.align == f.align)

-- whether the log has the block's triple
abbrev pub is_freed : Block → List Freed → Bool
is_freed b log = list_any (same_freed b) log

abbrev pub read_held : Tables → Handle → LiveHandle
read_held g x = record { kind = x.kind; block = owner_of g x; place = x.ptr; len = x.len }

abbrev pub read_handle : Tables → Option Handle → Option LiveHandle
read_handle g None = None
read_handle g (Some x) = Some (read_held g x)

-- Whether the drop that frees this record has let go. The last holder may free without lowering the count, and counts till
-- then; a drop that lowers it to 0 has let go.
abbrev pub has_let_go : Tables → ℕ → Bool
has_let_go g r = nat_eq (record_at g r).count 0

abbrev pub read_call : Tables → Option Pending → Option Unfinished
read_call g None = None
read_call g (Some (Loaded k w)) = Some (Sharing k.handle k.lo k.hi 3)
read_call g (Some (Ready k w r)) = Some (Sharing k.handle k.lo k.hi 2)
read_call g (Some (Add k r)) = Some (Sharing k.handle k.lo k.hi 1)
read_call g (Some (Subtract r)) = Some (Dropping (record_at g r).block false 2)
read_call g (Some (Release r)) = Some (Dropping (record_at g r).block (has_let_go g r) 1)

abbrev pub reading : State → World
reading s = record {
  ceiling = s.ceiling;
  blocks = s.tables.blocks;
  freed = map (λ b. is_freed b s.freed_blocks) s.tables.blocks;
  handles = map (read_handle s.tables) s.handles;
  calls = map (read_call s.tables) s.calls;
}
