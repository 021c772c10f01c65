-- A text in a row that takes one more chunk within the row's room.
use Rattle.iobufs.proofs.Text.Known.{AreFull, List, MarkedText, View, [], ap, arith, length, of_pieces, pieces_bytes, sym, text_append, text_len, text_prepend, view_len, ◌++◌, ◌<◌, ◌∙◌, ◌∷◌, ◌≡◌}
use Rattle.iobufs.proofs.Text.PieceLaws.{len-of_pieces, length-bytes}
use Rattle.iobufs.proofs.Text.TextLaws.{append-pieces, prepend-pieces}

-- several chunks of which none is empty have bytes
pub bytes-several : (vs : List View) → 0 < length vs → AreFull vs → 0 < length (pieces_bytes vs)
bytes-several [] several full = absurd (omega arith)
bytes-several (v ∷ vs) several full = omega (arith, full.0, length-bytes v vs)

-- several chunks of which none is empty make the text t
module _ (vs : List View) (t : MarkedText) (pieced : (0 < length vs) × AreFull vs) (text : of_pieces vs ≡ t) where
  pub length-row : length (pieces_bytes vs) ≡ text_len t
  length-row = sym (len-of_pieces vs) ∙ ap text_len text

  some : 0 < text_len t
  some = omega (arith, length-row, bytes-several vs pieced.0 pieced.1)

  -- one more chunk after the others, or before them
  module _ (ws : List View) (w : View) (more : 0 < view_len w) where
    pub behind-row : ws ≡ vs ++ w ∷ [] → of_pieces ws ≡ text_append t w
    behind-row pushed = ap of_pieces pushed ∙ append-pieces vs w t text some more

    pub ahead-row : ws ≡ w ∷ vs → of_pieces ws ≡ text_prepend t w
    ahead-row pushed = ap of_pieces pushed ∙ prepend-pieces vs w t text some more
