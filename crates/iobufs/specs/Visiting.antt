-- A function that changes chunks in place.
--     IsVisited    it was called on each chunk, in order, and each is what the function made of it
use Rattle.std.specs.Prelude.{◌≡◌, ℕ, List, map}
use Rattle.std.specs.List.{FoldsTo}
use Rattle.iobufs_core.specs.Part.{Part}
use Rattle.iobufs.specs.Parts.{parts_chunks, parts_filled, parts_overwritten}

-- calls in turn made new chunks of the old ones; how many bytes each buffer holds, and its spare capacity, are as before
pub record IsVisited {F : Type 0} (call : F → List ℕ → F → List ℕ → Type 0) (visit : F) (old : List Part) (last : F)
    (new : List Part) : Type 0 where
  -- the bytes of each chunk before and after its call
  pub turns : List (List ℕ × List ℕ)
  pub before : parts_chunks old ≡ map (λ (turn : List ℕ × List ℕ). turn.0) turns
  pub after : parts_chunks new ≡ map (λ (turn : List ℕ × List ℕ). turn.1) turns
  pub calls : FoldsTo (λ f (turn : List ℕ × List ℕ) g. call f turn.0 g turn.1) visit turns last
  pub kept : new ≡ parts_overwritten old (parts_filled new)
