-- The chunks of a text, each with its mark.
--     cut_views, text_views     from a key on, and all; one without bytes too
use Rattle.std.specs.Prelude.{ℕ, ◌-◌, List, [], ◌∷◌, take, drop}
use Rattle.iobufs_core.specs.View.{Mark, View}
use Rattle.iobufs_core.specs.MarkedText.{MarkedText}

-- the bytes from a key with its mark on, cut up at the further keys
abbrev pub cut_views : List ℕ → ℕ → Mark → List (ℕ × Mark) → List View
cut_views bytes key mark [] = record { bytes = bytes; mark = mark } ∷ []
cut_views bytes key mark (cut ∷ cuts) = record { bytes = take (cut.0 - key) bytes; mark = mark } ∷ cut_views
    (drop (cut.0 - key) bytes) cut.0 cut.1 cuts

-- the views of the chunks of a text; of a text without bytes its only one
unfoldable pub text_views : MarkedText → List View
text_views text = cut_views text.bytes 0 text.mark text.cuts
