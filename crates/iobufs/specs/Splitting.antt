-- How an `IoBufs` is split at an offset.
--     Splits         the front is taken and the rest is left; or an allocation failed, and nothing changed
--     LastBegins     the last chunk begins at the offset
--     SplitsFree     no split there can fail
use Rattle.std.specs.Prelude.{ℕ, ◌≡◌, ◌+◌, ◌≤◌, ◌⊎◌, Result, Ok, Err, List, [], ◌∷◌, ◌++◌, length}
use Rattle.iobufs_core.specs.Chunks.{first_chunk}
use Rattle.iobufs_core.specs.View.{static_mark}
use Rattle.iobufs_core.specs.MarkedText.{MarkedText, taken_view, text_chunks, text_len, text_rest, text_split_front}
use Rattle.iobufs_core.specs.declared.codec.base.BufError.{BufError}
use Rattle.iobufs_core.specs.declared.codec.base.BufError.TheVariants.{Memory}

-- the front is taken, and the rest is left; or an allocation failed, and nothing changed
abbrev pub Splits : MarkedText → ℕ → Result MarkedText BufError → MarkedText → Type 0
Splits old at (Ok front) new = (front ≡ text_split_front old at) × (new ≡ text_rest old at)
Splits old at (Err cause) new = (new ≡ old) × (cause ≡ Memory)

-- the last chunk begins at the offset
abbrev pub LastBegins : MarkedText → ℕ → Type 0
LastBegins text at = (front : List (List ℕ)) × (last : List ℕ) × (text_chunks text ≡ front ++ last ∷ [])
    × (at + length last ≡ text_len text)

-- no split there can fail: at either end, at the first chunk's end, inside it if it is static, or where the last begins
abbrev pub SplitsFree : MarkedText → ℕ → Type 0
SplitsFree text at = (at ≡ 0) ⊎ (at ≡ text_len text) ⊎ (at ≡ length (first_chunk (text_chunks text)))
    ⊎ ((at ≤ length (first_chunk (text_chunks text))) × ((taken_view text 0 at).mark ≡ static_mark)) ⊎ LastBegins text at
