-- The laws of chunks.
--     joined-full_chunks, full_chunks-twice         without empty chunks the bytes are equal, and leaving them out
--                                                   again changes nothing
--     joined-one, full-one, first_one, chunk_one    bytes of one chunk: it is the first, and they join to it
use Rattle.std.specs.Prelude.{◌≡◌, ℕ, List, [], ◌∷◌, ◌++◌, length, refl}
use Rattle.std.specs.List.{flat_map}
use Rattle.std.proofs.Common.{ap, sym, arith, take_all, append-nil}
use Rattle.iobufs_core.specs.Chunks.{full_chunks, first_chunk, IsChunkOf}

-- the chunks that hold bytes join to the same bytes
pub joined-full_chunks : (chunks : List (List ℕ)) → flat_map (λ chunk. chunk) (full_chunks chunks) ≡ flat_map (λ chunk. chunk) chunks
joined-full_chunks [] = refl
joined-full_chunks ([] ∷ chunks) = joined-full_chunks chunks
joined-full_chunks ((byte ∷ bytes) ∷ chunks) = ap (λ rest. (byte ∷ bytes) ++ rest) (joined-full_chunks chunks)

pub full_chunks-twice : (chunks : List (List ℕ)) → full_chunks (full_chunks chunks) ≡ full_chunks chunks
full_chunks-twice [] = refl
full_chunks-twice ([] ∷ chunks) = full_chunks-twice chunks
full_chunks-twice ((byte ∷ bytes) ∷ chunks) = ap (λ rest. (byte ∷ bytes) ∷ rest) (full_chunks-twice chunks)

-- bytes of one chunk
pub joined-one : (bytes : List ℕ) → flat_map (λ chunk. chunk) (full_chunks (bytes ∷ [])) ≡ bytes
joined-one [] = refl
joined-one (byte ∷ bytes) = append-nil (byte ∷ bytes)

pub full-one : (bytes : List ℕ) → full_chunks (full_chunks (bytes ∷ [])) ≡ full_chunks (bytes ∷ [])
full-one bytes = full_chunks-twice (bytes ∷ [])

pub first_one : (bytes : List ℕ) → bytes ≡ first_chunk (full_chunks (bytes ∷ []))
first_one [] = refl
first_one (byte ∷ bytes) = refl

pub chunk_one : (bytes : List ℕ) → IsChunkOf bytes bytes
chunk_one bytes = record { front = sym (take_all (length bytes) bytes (omega arith)); some = λ h. h }
