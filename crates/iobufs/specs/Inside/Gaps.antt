-- A row in the making: views in order, and gaps before them for bytes that are to come.
--     segment_of, segments_in   how chunks are read: one without bytes is a gap, and its end says how many are to
--                               come
--     gap_len, gaps_len         how many bytes are to come, at a segment and in all
--     standing_len, stood_len,  how many bytes are there, at a segment and in all; and both of a segment
--     segment_len
--     AreSegments               no segment is empty, and each gap comes before a view
--     segments_pushed           a gap, then a view
--     filled                    the views, once the bytes of one view have filled the gaps
use Rattle.std.specs.Prelude.{ℕ, ◌+◌, ◌<◌, ◌==◌, if◌then◌else◌, List, [], ◌∷◌, ◌++◌, length, map}
use Rattle.iobufs_core.specs.View.{View, view_rest, view_split_front}
use Rattle.iobufs.specs.Inside.Pieces.{view_len}
use Rattle.iobufs.specs.Inside.RowValues.{Segment, gap, standing}
use Rattle.iobufs.specs.declared.bufs.row.Entry.{Entry}

abbrev pub segment_of : Entry → Segment
segment_of piece = if view_len piece.view == 0 then gap piece.end else standing piece.view

abbrev pub segments_in : List Entry → List Segment
segments_in pieces = map segment_of pieces

-- how many bytes are to come, and how many stand
abbrev pub gap_len : Segment → ℕ
gap_len (gap n) = n
gap_len (standing view) = 0

abbrev pub standing_len : Segment → ℕ
standing_len (gap n) = 0
standing_len (standing view) = view_len view

abbrev pub segment_len : Segment → ℕ
segment_len segment = gap_len segment + standing_len segment

abbrev pub gaps_len : List Segment → ℕ
gaps_len [] = 0
gaps_len (segment ∷ segments) = gap_len segment + gaps_len segments

abbrev pub stood_len : List Segment → ℕ
stood_len [] = 0
stood_len (segment ∷ segments) = standing_len segment + stood_len segments

-- no segment is empty, and after each gap stands a view
abbrev pub AreSegments : List Segment → Type 0
AreSegments [] = Unit {0}
AreSegments (standing view ∷ segments) = (0 < view_len view) × AreSegments segments
AreSegments (gap n ∷ standing view ∷ segments) = (0 < n) × (0 < view_len view) × AreSegments segments
AreSegments (gap n ∷ segments) = ⊥

-- a view after a gap, and without one where it is for no bytes
abbrev pub segments_pushed : ℕ → View → List Segment
segments_pushed run view = (if run == 0 then [] else gap run ∷ []) ++ standing view ∷ []

-- a gap gets the first bytes of what is left of a view; what none got follows
abbrev pub filled : View → List Segment → List View
filled rest [] = if length rest.bytes == 0 then [] else rest ∷ []
filled rest (gap n ∷ segments) = view_split_front rest n ∷ filled (view_rest rest n) segments
filled rest (standing view ∷ segments) = view ∷ filled rest segments
