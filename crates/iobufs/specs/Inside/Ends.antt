-- Chunks with stored ends. An end, less the base of its row, modulo 2 ^ 64, is the number of bytes up to the chunk's
-- end. So bytes that come or go at the front change the base alone.
--     from_base, ends_from    how many bytes there are up to an end, by the base; and up to each chunk's end
--     views_in, run_chunks    the chunks without their ends, and the bytes of each chunk of a run
--     IsEndPlace, AreEnds          each chunk ends where the bytes before it and its own determine
--     IsRow                   the invariant of several chunks: their ends, and that none is empty
--     IsSearch                what a search requires: rising ends, and an offset below the last
--     shortened, cut_piece    the first chunk less n bytes; the part of a chunk before a cut, if any
use Rattle.std.specs.Prelude.{◌≡◌, ℕ, ◌+◌, ◌-◌, ◌%◌, ◌^◌, ◌<◌, ◌==◌, if◌then◌else◌, List, [], ◌∷◌, length, map, get_or}
use Rattle.iobufs_core.specs.View.{View, view_advanced}
use Rattle.iobufs.specs.Inside.Pieces.{view_len, AreFull}
use Rattle.iobufs.specs.Search.{IsRising}
use Rattle.iobufs.specs.declared.bufs.row.Entry.{Entry}
use Rattle.iobufs.specs.declared.bufs.row.Run.{Run}
use Rattle.iobufs.specs.declared.bufs.row.Run.TheVariants.{One, Several}

-- an end less a base, modulo 2 ^ 64
abbrev pub from_base : ℕ → ℕ → ℕ
from_base base end = (end + (2 ^ 64 - base)) % 2 ^ 64

abbrev pub views_in : List Entry → List View
views_in pieces = map (λ (piece : Entry). piece.view) pieces

-- the bytes of each chunk of a run: one chunk, or some of a deque
abbrev pub run_chunks : Run → List (List ℕ)
run_chunks (One chunk) = chunk.now ∷ []
run_chunks (Several pieces) = map (λ (piece : Entry). piece.view.bytes) pieces.now

abbrev pub ends_from : ℕ → List Entry → List ℕ
ends_from base pieces = map (λ (piece : Entry). from_base base piece.end) pieces

-- a chunk's end as it is stored, and where the chunk ends, with `start` bytes before it
pub record IsEndPlace (base start : ℕ) (piece : Entry) : Type 0 where
  pub stored : piece.end < 2 ^ 64
  pub placed : from_base base piece.end ≡ start + view_len piece.view

-- `start` bytes come before the first chunk, and each end is where its chunk ends
abbrev pub AreEnds : ℕ → ℕ → List Entry → Type 0
AreEnds base start [] = Unit {0}
AreEnds base start (piece ∷ pieces) = IsEndPlace base start piece × AreEnds base (start + view_len piece.view) pieces

-- the invariant of a deque: each end, less the base, is where its chunk ends in the bytes, and each chunk has bytes
pub record IsRow (base : ℕ) (pieces : List Entry) : Type 0 where
  pub based : base < 2 ^ 64
  pub ended : AreEnds base 0 pieces
  pub full : AreFull (views_in pieces)

-- the requirements of a search: rising ends, and an offset below the last of them
pub record IsSearch (ends : List ℕ) (place : ℕ) : Type 0 where
  pub rising : IsRising ends
  pub some : 0 < length ends
  pub inside : place < get_or ends (length ends - 1) 0

-- the first chunk without its first n bytes; it ends where it did
abbrev pub shortened : List Entry → ℕ → List Entry
shortened [] n = []
shortened (piece ∷ pieces) n = record { view = view_advanced piece.view n; end = piece.end } ∷ pieces

-- the first bytes of a chunk that is cut; none where the place is its first
abbrev pub cut_piece : View → ℕ → ℕ → List Entry
cut_piece view end offset = if offset == 0 then [] else record { view = view; end = end } ∷ []
