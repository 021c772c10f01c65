-- How a list of views is read as a marked text.
--     of_pieces                 one view as it is; several concatenated
--     IsPieces, AreFull         the invariant: at least one chunk, and if there are more, none is empty
--     AreViews                  native storage reaches to the end of each chunk
--     view_len, pieces_bytes    how many bytes a chunk has, and the bytes of all
--     piece_at, piece_start     the i-th chunk, and how many bytes come before it
--     IsChunkPlace                   an offset, as a chunk and a distance in it
--     left_pieces,              the chunks of the two sides of an offset
--     right_pieces
--     rest_pieces               the rest without the first bytes; the empty view if all go
--     advanced_pieces           the rest without the first bytes; a single one stays, also without bytes
--     bytes_behind              the bytes from an offset on, given as a chunk and a distance in it
--     behind_first              the chunks after the first; the empty view if it is the only one
use Rattle.std.specs.Prelude.{◌≡◌, ℕ, ◌+◌, ◌-◌, ◌<◌, get_or, nat_lt, ◌==◌, if◌then◌else◌, List, [], ◌∷◌, length, take, drop, flat_map}
use Rattle.iobufs_core.specs.View.{View, IsView, default_view, view_front, view_advanced}
use Rattle.iobufs_core.specs.MarkedText.{MarkedText, of_view, default_text, text_glue}

abbrev pub view_len : View → ℕ
view_len view = length view.bytes

-- the bytes of all chunks
abbrev pub pieces_bytes : List View → List ℕ
pieces_bytes pieces = flat_map (λ v. v.bytes) pieces

-- the number of bytes before the i-th chunk
abbrev pub piece_start : List View → ℕ → ℕ
piece_start pieces i = length (pieces_bytes (take i pieces))

unfoldable pub of_pieces : List View → MarkedText
of_pieces [] = default_text
of_pieces (v ∷ []) = of_view v
of_pieces (v ∷ w ∷ vs) = text_glue (of_view v) (of_pieces (w ∷ vs))

-- no chunk is empty
abbrev pub AreFull : List View → Type 0
AreFull [] = Unit {0}
AreFull (v ∷ vs) = (0 < view_len v) × AreFull vs

abbrev pub IsPieces : List View → Type 0
IsPieces [] = ⊥
IsPieces (v ∷ []) = Unit {0}
IsPieces (v ∷ w ∷ vs) = AreFull (v ∷ w ∷ vs)

-- the capacity of each chunk reaches its end
abbrev pub AreViews : List View → Type 0
AreViews [] = Unit {0}
AreViews (v ∷ vs) = IsView v × AreViews vs

-- the first bytes, up to a place
abbrev pub left_pieces : List View → ℕ → List View
left_pieces [] at = []
left_pieces (v ∷ vs) at = if at == 0 then [] else if nat_lt at (view_len v) then view_front v at ∷ [] else v ∷ left_pieces vs
    (at - view_len v)

-- the bytes from a place on
abbrev pub right_pieces : List View → ℕ → List View
right_pieces [] at = []
right_pieces (v ∷ vs) at = if nat_lt at (view_len v) then view_advanced v at ∷ vs else right_pieces vs (at - view_len v)

-- the rest without the first bytes; the empty view if all go
abbrev pub rest_pieces : List View → ℕ → List View
rest_pieces pieces n = if n == length (pieces_bytes pieces) then default_view ∷ [] else right_pieces pieces n

-- the rest without the first bytes; a single one stays, also without bytes
abbrev pub advanced_pieces : List View → ℕ → List View
advanced_pieces [] n = []
advanced_pieces (v ∷ []) n = view_advanced v n ∷ []
advanced_pieces (v ∷ w ∷ vs) n = rest_pieces (v ∷ w ∷ vs) n

-- the chunks after the first; an only one leaves the default view
abbrev pub behind_first : List View → List View
behind_first [] = []
behind_first (v ∷ []) = default_view ∷ []
behind_first (v ∷ w ∷ vs) = w ∷ vs

-- the i-th chunk
abbrev pub piece_at : List View → ℕ → View
piece_at pieces i = get_or pieces i default_view

-- a place, as a chunk and the number of bytes before the place in it
pub record IsChunkPlace (pieces : List View) (at index offset : ℕ) : Type 0 where
  pub sum : piece_start pieces index + offset ≡ at
  pub inside : offset < view_len (piece_at pieces index)

-- the bytes from a place on
abbrev pub bytes_behind : List View → ℕ → ℕ → List ℕ
bytes_behind pieces index offset = drop offset (pieces_bytes (drop index pieces))
