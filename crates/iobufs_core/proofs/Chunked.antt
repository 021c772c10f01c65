-- The chunks of a marked text are as many as its keys.
--     length-text_chunks    a text that isn't empty shows a chunk for each cut, and one more
use Rattle.std.proofs.Common.{◌≡◌, ℕ, suc, ◌+◌, ◌-◌, ◌<◌, List, [], ◌∷◌, length, take, drop, arith, ap, refl, ◌∙◌, length-take-le, length-drop}
use Rattle.iobufs_core.specs.Chunks.{full_chunks}
use Rattle.iobufs_core.specs.View.{Mark}
use Rattle.iobufs_core.specs.MarkedText.{MarkedText, AreCuts, IsMarked, cut_up, text_chunks, text_len}

-- a chunk that holds bytes counts
full_one : (chunk : List ℕ) (chunks : List (List ℕ)) → 0 < length chunk
    → length (full_chunks (chunk ∷ chunks)) ≡ suc (length (full_chunks chunks))
full_one [] chunks some = absurd (omega arith)
full_one (byte ∷ bytes) chunks some = refl

-- bytes that are cut up between rising cuts are so many chunks that hold bytes
length-cut_up : (bytes : List ℕ) (key : ℕ) (mark : Mark) (cuts : List (ℕ × Mark)) (end : ℕ) → AreCuts key mark cuts end → key < end
    → length bytes ≡ end - key
    → length (full_chunks (cut_up bytes key cuts)) ≡ suc (length cuts)
length-cut_up bytes key mark [] end are some long = full_one bytes [] (omega arith)
length-cut_up bytes key mark (cut ∷ cuts) end (is, others) some long =
    let first = length-take-le (cut.0 - key) bytes (omega (arith, is.below, long)) in
    let rest : length (drop (cut.0 - key) bytes) ≡ end - cut.0 = omega (arith, length-drop (cut.0 - key) bytes) in
    full_one (take (cut.0 - key) bytes) (cut_up (drop (cut.0 - key) bytes) cut.0 cuts) (omega (arith, first, is.rises))
    ∙ ap suc (length-cut_up (drop (cut.0 - key) bytes) cut.0 cut.1 cuts end others is.below rest)

-- there is one chunk more than cuts, unless there are no bytes
pub length-text_chunks : (text : MarkedText) → IsMarked text → 0 < text_len text → length (text_chunks text) ≡ length text.cuts + 1
unfolding text_chunks
length-text_chunks text marked some =
    let all = length-cut_up text.bytes 0 text.mark text.cuts (text_len text) marked some (omega arith) in
    omega (arith, all)
