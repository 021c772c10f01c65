-- Worked values of texts in chunks, computed by the definitions.
use Rattle.iobufs.proofs.Text.Known.{List, MarkedText, View, [], chunk_count, default_text, default_view, joined, native_mark, of_view, refl, static_mark, taken_view, text_advanced, text_append, text_chunks, text_coalesced, text_glue, text_left, text_prepend, text_rest, text_right, text_split_front, ℕ, ◌∷◌, ◌≡◌}

abbrev ab : List ℕ
ab = 97 ∷ 98 ∷ []

abbrev cd : List ℕ
cd = 99 ∷ 100 ∷ []

abbrev ef : List ℕ
ef = 101 ∷ 102 ∷ []

abbrev gh : List ℕ
gh = 103 ∷ 104 ∷ []

abbrev fixed : List ℕ → View
fixed bytes = record { bytes = bytes; mark = static_mark }

abbrev native : List ℕ → ℕ → View
native bytes room = record { bytes = bytes; mark = native_mark room }

-- chunks `ab`, `cd`, `ef`, `gh`; the second is native, of room 8
abbrev four : MarkedText
four = joined (fixed ab ∷ native cd 8 ∷ fixed ef ∷ fixed gh ∷ [])

-- a split inside a chunk, and one at its edge
split_five : text_split_front four 5 ≡ joined (fixed ab ∷ native cd 8 ∷ fixed (101 ∷ []) ∷ [])
unfolding text_left text_glue
split_five = refl

left_five : text_rest four 5 ≡ joined (fixed (102 ∷ []) ∷ fixed gh ∷ [])
unfolding text_right text_glue
left_five = refl

split_four : text_split_front four 4 ≡ joined (fixed ab ∷ native cd 8 ∷ [])
unfolding text_left text_glue
split_four = refl

left_four : text_rest four 4 ≡ joined (fixed ef ∷ fixed gh ∷ [])
unfolding text_right text_glue
left_four = refl

-- inside a native chunk its room goes on from the place
left_three : text_rest four 3 ≡ joined (native (100 ∷ []) 7 ∷ fixed ef ∷ fixed gh ∷ [])
unfolding text_right text_glue
left_three = refl

-- one chunk drained keeps its mark; two leave the default
emptied : text_advanced (of_view (native (97 ∷ 98 ∷ 99 ∷ 100 ∷ []) 8)) 4 ≡ of_view (native [] 4)
unfolding text_right
emptied = refl

emptied_shows_nothing : chunk_count (of_view (native [] 4)) ≡ 0
emptied_shows_nothing = refl

both_gone : text_advanced (joined (native ab 8 ∷ native cd 8 ∷ [])) 4 ≡ default_text
unfolding text_right text_glue
both_gone = refl

-- bytes taken across chunks are a copy of exact capacity; bytes taken within a chunk have its storage kind
taken_one : taken_view (joined (fixed ab ∷ fixed cd ∷ [])) 0 1 ≡ fixed (97 ∷ [])
unfolding taken_view text_glue
taken_one = refl

taken_next : taken_view (text_rest (joined (fixed ab ∷ fixed cd ∷ [])) 1) 0 2 ≡ native (98 ∷ 99 ∷ []) 2
unfolding taken_view text_right text_glue
taken_next = refl

left_last : text_rest (text_rest (joined (fixed ab ∷ fixed cd ∷ [])) 1) 2 ≡ of_view (fixed (100 ∷ []))
unfolding text_right text_glue
left_last = refl

taken_across : taken_view four 1 2 ≡ native (98 ∷ 99 ∷ []) 2
unfolding taken_view text_glue
taken_across = refl

left_across : text_rest four 3 ≡ joined (native (100 ∷ []) 7 ∷ fixed ef ∷ fixed gh ∷ [])
unfolding text_right text_glue
left_across = refl

taken_within : taken_view four 2 2 ≡ native cd 8
unfolding taken_view text_glue
taken_within = refl

-- the chunks
shown : text_chunks four ≡ ab ∷ cd ∷ ef ∷ gh ∷ []
unfolding text_chunks text_glue
shown = refl

counted : chunk_count four ≡ 4
unfolding text_glue
counted = refl

-- at the front, and after
in_front : text_prepend four (fixed (120 ∷ 121 ∷ [])) ≡ joined (fixed (120 ∷ 121 ∷ []) ∷ fixed ab ∷ native cd 8 ∷ fixed ef ∷ fixed gh ∷ [])
unfolding text_glue
in_front = refl

behind : text_append four default_view ≡ four
behind = refl

-- an empty buffer before an emptied text changes nothing
nothing_in_front : text_prepend (of_view (native [] 4)) default_view ≡ of_view (native [] 4)
nothing_in_front = refl

as_one : text_coalesced four ≡ of_view (native (97 ∷ 98 ∷ 99 ∷ 100 ∷ 101 ∷ 102 ∷ 103 ∷ 104 ∷ []) 8)
unfolding text_glue
as_one = refl
