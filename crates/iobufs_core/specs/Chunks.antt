-- Bytes in chunks: what a reader sees of them, chunk by chunk.
--     is_full, full_chunks    a chunk that holds bytes; those of several that do, in order
--     first_chunk             what a reader is shown: the first of several, or no bytes
--     IsChunkOf               a prefix of the bytes, which is empty only if there are none
use Rattle.std.specs.Prelude.{◌≡◌, ℕ, Bool, true, false, List, [], ◌∷◌, filter, length, take}

-- whether a chunk holds bytes
abbrev pub is_full : List ℕ → Bool
is_full [] = false
is_full (byte ∷ bytes) = true

-- the chunks that hold bytes, in order
abbrev pub full_chunks : List (List ℕ) → List (List ℕ)
full_chunks chunks = filter is_full chunks

-- the first of some chunks, empty where there is none
abbrev pub first_chunk : List (List ℕ) → List ℕ
first_chunk [] = []
first_chunk (chunk ∷ chunks) = chunk

-- a prefix of the bytes, empty only if there are none
pub record IsChunkOf (chunk text : List ℕ) : Type 0 where
  pub front : chunk ≡ take (length chunk) text
  pub some : length chunk ≡ 0 → length text ≡ 0
