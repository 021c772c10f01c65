-- Readers of bytes as the crate `bytes` and std see them.
use Rattle.std.specs.Prelude.{◌≡◌, ℕ, min, ◌<◌, List, [], ◌∷◌, ◌++◌, length, take, drop, refl}
use Rattle.std.proofs.Common.{sym, ap, ◌∙◌, arith, length-append, length-drop, length-take, take_all}
use Rattle.std.proofs.lemmas.List.{nil_from_length, drop_min, take-append-le, take-append-drop}
use Rattle.std.specs.Io.{StartsWith}
use Rattle.bytes.specs.Unread.{IsChunkOf}
use Rattle.iobufs_core.specs.Chunks.{IsChunkOf as IsOurChunkOf}

-- a chunk as our traits say it is one as the crate's say it
pub chunk_of_bytes : (chunk text : List ℕ) → IsOurChunkOf chunk text → IsChunkOf chunk text
chunk_of_bytes [] text is = record { front = sym is.front; fits = omega arith; some = λ more. omega (arith, is.some refl, more) }
chunk_of_bytes (byte ∷ bytes) text is = record {
  front = sym is.front;
  fits = omega (arith, ap length is.front, length-take (length (byte ∷ bytes)) text);
  some = λ more. omega arith;
}

-- a chunk is a beginning
pub starts_with : (chunk text : List ℕ) → IsOurChunkOf chunk text → StartsWith text chunk
starts_with chunk text is = sym is.front

-- an empty chunk is the end
pub ends_where : (chunk text : List ℕ) → IsOurChunkOf chunk text → length chunk ≡ 0 → text ≡ []
ends_where chunk text is none = nil_from_length text (is.some none)

-- dropping at most all
pub dropped_all : (n amount : ℕ) (text new : List ℕ) → n ≡ min amount (length text) → new ≡ drop n text → new ≡ drop amount text
dropped_all n amount text new is same = same ∙ ap (λ k. drop k text) is ∙ drop_min amount text

-- a read took the first bytes, none only where there are none
pub took_front : (n : ℕ) (text copied dst new : List ℕ) → n ≡ min (length dst) (length text) → copied ≡ take n text → new ≡ drop n text
    → (text ≡ take n (copied ++ drop n dst) ++ new) × (n ≡ 0 → 0 < length (copied ++ drop n dst) → new ≡ [])
took_front n text copied dst new is took rest =
    let long : length copied ≡ n = omega (arith, ap length took, length-take n text, is) in
    let front : take n (copied ++ drop n dst) ≡ copied = take-append-le n copied (drop n dst) (omega (arith, long))
    ∙ take_all n copied (omega (arith, long)) in
    let whole : text ≡ copied ++ new = sym (take-append-drop n text) ∙ (λ i. sym took i ++ sym rest i) in (
      whole ∙ ap (λ w. w ++ new) (sym front),
      λ none room. nil_from_length new
          (omega (arith, ap length rest, length-drop n text, is, none, room, length-append copied (drop n dst), long, length-drop n dst)),
    )
