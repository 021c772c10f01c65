-- Received bytes, as contracts see them.
--     ReceivedBytes    how the headers are laid out, the bytes that were not taken, and how many more fit after them
--     none_received    none of them, and no space
--     KeepsSpace       a frame was taken: the space stays, or went with an emptied block
--     is_bytes_view    a view whose storage is a `Bytes`: it shares the block, or is a copy
--     KeepsReceived    a frame was taken, of which something holds, with the space of KeepsSpace; or all stays
--     HasReceived      bytes came after those that are held, into the space
--     block_row        a block of the crate `bytes`, for the clause on one that is lent
use Rattle.std.specs.Prelude.{◌≡◌, ◌⊎◌, ℕ, ◌+◌, Option, Result, List, [], ◌++◌, length}
use Rattle.std.specs.Borrow.{RattleType}
use Rattle.std.specs.contracts.alloc.Global as global
use Rattle.std.specs.contracts.impls.GlobalAllocator.TheImpl.{ghosts}
use Rattle.bytes.specs.contracts.unique.BytesMut as bytes_mut
use Rattle.iobufs_core.specs.View.{View, view_of_bytes}
use Rattle.iobufs_core.specs.declared.codec.base.Error.{Error}
use Rattle.iobufs_frames.specs.Frames.{MatchTaken}
use Rattle.iobufs_frames.specs.declared.lengths.Layout.{Layout}

-- how the headers are laid out, the bytes that were not taken, and how many more fit after them
pub record ReceivedBytes : Type 0 where
  pub layout : Layout
  pub bytes : List ℕ
  pub space : ℕ

-- none of them, and no space
abbrev pub none_received : Layout → ReceivedBytes
none_received layout = record { layout = layout; bytes = []; space = 0 }

-- a frame was taken: the space stays, or it went with an emptied block
abbrev pub KeepsSpace : ReceivedBytes → ReceivedBytes → Type 0
KeepsSpace old new = (new.space ≡ old.space) ⊎ ((new.bytes ≡ []) × (new.space ≡ 0))

-- a view whose storage is a `Bytes`
abbrev pub is_bytes_view : View → Type 0
is_bytes_view view = view ≡ view_of_bytes view.bytes

-- a frame was taken, of which `also` holds, with the space of `KeepsSpace`; or none was, and all stays
abbrev pub KeepsReceived : {T : Type 0} → (T → Type 0) → ReceivedBytes → Result (Option T) Error → ReceivedBytes → Type 0
KeepsReceived also old result new = MatchTaken result
    (λ taken. (new.layout ≡ old.layout) × KeepsSpace old new × also taken) (new ≡ old)

-- so many bytes came after those that are held, into the space
pub record HasReceived (n : ℕ) (old new : ReceivedBytes) : Type 0 where
  pub more : List ℕ
  pub count : length more ≡ n
  pub bytes : new.bytes ≡ old.bytes ++ more
  pub space : new.space + n ≡ old.space
  pub layout : new.layout ≡ old.layout

-- a block of the crate `bytes`, for the clause on one that is lent
abbrev pub block_row : RattleType
block_row = bytes_mut.the_row global.the_row ghosts
