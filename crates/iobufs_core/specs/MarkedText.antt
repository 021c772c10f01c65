-- The value of an `IoBufs`: bytes, with a mark at offset 0 and at each cut.
--     MarkedText, IsMarked              a finite map from offsets to marks; the cuts rise, and are strictly inside
--     IsCut, AreCuts                    one cut, and all from an offset on: they rise below the end, and each chunk
--                                       has its capacity
--     of_view, default_text             a view as an `IoBufs` of one chunk, and the empty one
--     text_len, is_single               how many bytes; whether they are one chunk
--     key_upto, mark_past               the last offset up to p that has a mark, with it; and that mark moved on to p
--     mark_at, text_left, text_right    the mark at an offset, and the two sides of it
--     moved_up, moved_down              a cut with bytes added before it, and with bytes taken from there
--     text_split_front, text_rest       what a split returns and leaves
--     text_advanced, taken_view         what `advance` leaves, and what is taken as one view
--     has_cut_between                   whether bytes span chunks, so that a view of them has to be a copy
--     text_glue                         two that aren't empty, concatenated, with a cut between
--     text_append, text_prepend,        a view added at the end, one at the start, and several in order
--     joined
--     text_coalesced                    all bytes as one chunk
--     chunk_count, cut_up,              how many chunks a reader sees, bytes cut at offsets, and the chunks
--     text_chunks
use Rattle.std.specs.Prelude.{ℕ, ◌+◌, ◌-◌, ◌<◌, Bool, ◌==◌, ◌&&◌, nat_lt, nat_le, if◌then◌else◌, List, [], ◌∷◌, ◌++◌, length, take, drop, map, filter, fold}
use Rattle.std.specs.List.{list_any}
use Rattle.iobufs_core.specs.Chunks.{full_chunks}
use Rattle.iobufs_core.specs.View.{Mark, View, ReachesEnd, mark_after, native_mark, default_view}

-- the bytes, the mark of the first chunk, and the offsets where the further chunks begin, with their marks
pub record MarkedText : Type 0 where
  pub bytes : List ℕ
  pub mark : Mark
  pub cuts : List (ℕ × Mark)

-- a cut is after a key and below the end, and the chunk between them fits its storage
pub record IsCut (key : ℕ) (mark : Mark) (cut : ℕ × Mark) (end : ℕ) : Type 0 where
  pub rises : key < cut.0
  pub below : cut.0 < end
  pub room : ReachesEnd mark (cut.0 - key)

-- from a key with its mark on: the cuts rise and are below the end, and each chunk fits its storage
abbrev pub AreCuts : ℕ → Mark → List (ℕ × Mark) → ℕ → Type 0
AreCuts key mark [] end = ReachesEnd mark (end - key)
AreCuts key mark (cut ∷ cuts) end = IsCut key mark cut end × AreCuts cut.0 cut.1 cuts end

abbrev pub IsMarked : MarkedText → Type 0
IsMarked text = AreCuts 0 text.mark text.cuts (length text.bytes)

-- a view is a marked text without cuts
abbrev pub of_view : View → MarkedText
of_view view = record { bytes = view.bytes; mark = view.mark; cuts = [] }

abbrev pub default_text : MarkedText
default_text = of_view default_view

abbrev pub text_len : MarkedText → ℕ
text_len text = length text.bytes

-- the last key, of one and some further, whose place is at most p
abbrev pub key_upto : ℕ × Mark → List (ℕ × Mark) → ℕ → ℕ × Mark
key_upto key [] p = key
key_upto key (cut ∷ cuts) p = if nat_le cut.0 p then key_upto cut cuts p else key_upto key cuts p

-- the mark at a key, moved on to p
abbrev pub mark_past : ℕ × Mark → ℕ → Mark
mark_past key p = mark_after (p - key.0) key.1

-- the mark at the greatest key that is at most p, moved on to p
abbrev pub mark_at : MarkedText → ℕ → Mark
mark_at text p = mark_past (key_upto (0, text.mark) text.cuts p) p

abbrev pub moved_up : ℕ → ℕ × Mark → ℕ × Mark
moved_up n cut = (n + cut.0, cut.1)

abbrev pub moved_down : ℕ → ℕ × Mark → ℕ × Mark
moved_down n cut = (cut.0 - n, cut.1)

-- the first `at` bytes, with the keys below `at` and their marks
unfoldable pub text_left : MarkedText → ℕ → MarkedText
text_left text at = record { bytes = take at text.bytes; mark = text.mark; cuts = filter (λ cut. nat_lt cut.0 at) text.cuts }

-- the other bytes, with key 0 marked as `mark_at text at` is, and each key above `at` moved down
unfoldable pub text_right : MarkedText → ℕ → MarkedText
text_right text at = record {
  bytes = drop at text.bytes;
  mark = mark_at text at;
  cuts = map (moved_down at)
      (filter (λ cut. nat_lt at cut.0) text.cuts);
}

-- the front that a split at an offset returns
abbrev pub text_split_front : MarkedText → ℕ → MarkedText
text_split_front text at = if at == 0 then default_text else if at == text_len text then text else text_left text at

-- the rest that a split at an offset leaves, or a copy of that many bytes
abbrev pub text_rest : MarkedText → ℕ → MarkedText
text_rest text at = if at == 0 then text else if at == text_len text then default_text else text_right text at

abbrev pub is_single : MarkedText → Bool
is_single text = length text.cuts == 0

-- the rest that `advance` leaves: a single chunk that is drained keeps its mark
abbrev pub text_advanced : MarkedText → ℕ → MarkedText
text_advanced text n = if is_single text && (n == text_len text) then text_right text n else text_rest text n

-- a cut is strictly between two offsets
abbrev pub has_cut_between : MarkedText → ℕ → ℕ → Bool
has_cut_between text from to = list_any (λ cut. nat_lt from cut.0 && nat_lt cut.0 to) text.cuts

-- n bytes from `skip` on, as one view: of their chunk, or native if they span chunks
unfoldable pub taken_view : MarkedText → ℕ → ℕ → View
taken_view text skip n =
    if n == 0 then default_view
    else record {
      bytes = take n (drop skip text.bytes);
      mark = if has_cut_between text skip
          (skip + n) then native_mark n else mark_at text skip;
    }

-- in order, neither of them empty
unfoldable pub text_glue : MarkedText → MarkedText → MarkedText
text_glue x y = record {
  bytes = x.bytes ++ y.bytes;
  mark = x.mark;
  cuts = x.cuts
      ++ (text_len x, y.mark) ∷ map (moved_up (text_len x)) y.cuts;
}

-- a buffer added at the end, or at the start: an empty buffer changes nothing, an empty `IoBufs` becomes the
-- buffer
abbrev pub text_append : MarkedText → View → MarkedText
text_append text view = if length view.bytes == 0 then text else if text_len text == 0 then of_view view else text_glue text (of_view view)

abbrev pub text_prepend : MarkedText → View → MarkedText
text_prepend text view = if length view.bytes == 0 then text else if text_len text == 0 then of_view view else text_glue (of_view view) text

-- the views in order, each put after those before it
abbrev pub joined : List View → MarkedText
joined views = fold text_append default_text views

-- as one chunk: without cuts the same, else a copy
abbrev pub text_coalesced : MarkedText → MarkedText
text_coalesced text = if is_single text then text else of_view (record { bytes = text.bytes; mark = native_mark (text_len text) })

-- none if there are no bytes, else one more than there are cuts
abbrev pub chunk_count : MarkedText → ℕ
chunk_count text = if text_len text == 0 then 0 else length text.cuts + 1

-- the bytes from a key on, cut up at the further keys
abbrev pub cut_up : List ℕ → ℕ → List (ℕ × Mark) → List (List ℕ)
cut_up bytes key [] = bytes ∷ []
cut_up bytes key (cut ∷ cuts) = take (cut.0 - key) bytes ∷ cut_up (drop (cut.0 - key) bytes) cut.0 cuts

-- the bytes of each chunk that holds some
unfoldable pub text_chunks : MarkedText → List (List ℕ)
text_chunks text = full_chunks (cut_up text.bytes 0 text.cuts)
