-- The laws of a reader, for marked texts.
--     joined-chunks, full-chunks    the chunks join to the `IoBufs`, and none is empty
use Rattle.std.specs.Prelude.{◌≡◌, ℕ, ◌-◌, List, [], ◌∷◌, ◌++◌, take, drop}
use Rattle.std.specs.List.{flat_map}
use Rattle.std.proofs.Common.{ap, ◌∙◌, append-nil}
use Rattle.std.proofs.lemmas.List.{take-append-drop}
use Rattle.iobufs_core.specs.Chunks.{full_chunks}
use Rattle.iobufs_core.specs.ChunkLaws.{joined-full_chunks, full_chunks-twice}
use Rattle.iobufs_core.specs.View.{Mark}
use Rattle.iobufs_core.specs.MarkedText.{MarkedText, cut_up, text_chunks}

joined-cut_up : (bytes : List ℕ) (key : ℕ) (cuts : List (ℕ × Mark)) → flat_map (λ piece. piece) (cut_up bytes key cuts) ≡ bytes
joined-cut_up bytes key [] = append-nil bytes
joined-cut_up bytes key (cut ∷ cuts) =
    ap (λ rest. take (cut.0 - key) bytes ++ rest) (joined-cut_up (drop (cut.0 - key) bytes) cut.0 cuts)
    ∙ take-append-drop (cut.0 - key) bytes

-- the chunks join to the `IoBufs`, and none is empty
pub joined-chunks : (t : MarkedText) → flat_map (λ piece. piece) (text_chunks t) ≡ t.bytes
unfolding text_chunks
joined-chunks t = joined-full_chunks (cut_up t.bytes 0 t.cuts) ∙ joined-cut_up t.bytes 0 t.cuts

pub full-chunks : (t : MarkedText) → full_chunks (text_chunks t) ≡ text_chunks t
unfolding text_chunks
full-chunks t = full_chunks-twice (cut_up t.bytes 0 t.cuts)
