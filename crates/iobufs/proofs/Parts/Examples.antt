-- The rules of parts on examples with known answers.
use Rattle.iobufs.proofs.Text.{List, Part, [], empty_part, kept_parts, native_mark, parts_coalesced, parts_drained, parts_fill, parts_frozen, parts_overwritten, parts_spare, parts_with_len, refl, text_glue, ℕ, ◌∷◌, ◌≡◌}

-- the bytes `ab` with so much room after them
abbrev ab : ℕ → Part
ab spare = record { filled = 97 ∷ 98 ∷ []; spare = spare }

abbrev of : List ℕ → ℕ → Part
of bytes spare = record { filled = bytes; spare = spare }

-- of four parts, one that is drained keeps its room
four_drained : parts_drained (ab 2 ∷ ab 2 ∷ ab 2 ∷ ab 2 ∷ []) 2 ≡ empty_part 2 ∷ ab 2 ∷ ab 2 ∷ ab 2 ∷ []
four_drained = refl

four_drained-spare : parts_spare (parts_drained (ab 2 ∷ ab 2 ∷ ab 2 ∷ ab 2 ∷ []) 2) ≡ 8
four_drained-spare = refl

-- draining the first of three buffers
three_drained : parts_drained (ab 2 ∷ ab 2 ∷ ab 2 ∷ []) 2 ≡ empty_part 2 ∷ ab 2 ∷ ab 2 ∷ []
three_drained = refl

three_drained-spare : parts_spare (parts_drained (ab 2 ∷ ab 2 ∷ ab 2 ∷ []) 2) ≡ 6
three_drained-spare = refl

-- of two parts, whether their bytes end with a part or inside it
two_drained : parts_drained (ab 2 ∷ of (99 ∷ 100 ∷ []) 0 ∷ []) 2 ≡ empty_part 2 ∷ of (99 ∷ 100 ∷ []) 0 ∷ []
two_drained = refl

two_drained_past : parts_drained (ab 2 ∷ of (99 ∷ 100 ∷ []) 0 ∷ []) 3 ≡ empty_part 2 ∷ of (100 ∷ []) 0 ∷ []
two_drained_past = refl

-- parts that can't hold a byte any more go, wherever they stand
four_not_drained : parts_drained (empty_part 4 ∷ ab 1 ∷ of (99 ∷ []) 0 ∷ of (100 ∷ []) 0 ∷ []) 0 ≡ empty_part 4 ∷ ab 1 ∷ of (99 ∷ []) 0 ∷ of
    (100 ∷ []) 0 ∷ []
four_not_drained = refl

four_drained_two : parts_drained (empty_part 4 ∷ ab 1 ∷ of (99 ∷ []) 0 ∷ of (100 ∷ []) 0 ∷ []) 2 ≡ empty_part 4 ∷ empty_part 1 ∷ of
    (99 ∷ []) 0
    ∷ of (100 ∷ []) 0 ∷ []
four_drained_two = refl

four_drained_three : parts_drained (empty_part 4 ∷ empty_part 1 ∷ of (99 ∷ []) 0 ∷ of (100 ∷ []) 0 ∷
    []) 1 ≡ empty_part 4 ∷ empty_part 1 ∷ of (100 ∷ []) 0 ∷ []
four_drained_three = refl

-- where none is left, one that can't hold a byte stands
two_drained_whole : parts_drained (of (99 ∷ []) 0 ∷ of (100 ∷ []) 0 ∷ []) 2 ≡ empty_part 0 ∷ []
two_drained_whole = refl

-- one part keeps its room
one_drained : parts_drained (ab 2 ∷ []) 2 ≡ empty_part 2 ∷ []
one_drained = refl

-- puts fill the room of the parts in order
two_filled : parts_fill (ab 1 ∷ of (99 ∷ []) 2 ∷ []) (120 ∷ 121 ∷ 122 ∷ []) ≡ of (97 ∷ 98 ∷ 120 ∷ []) 0 ∷ of (99 ∷ 121 ∷ 122 ∷ []) 0 ∷ []
two_filled = refl

-- each part in order takes as much of a length as it can hold, and further bytes are zero
two_with_len : parts_with_len (ab 2 ∷ empty_part 4 ∷ []) 5 ≡ of (97 ∷ 98 ∷ 0 ∷ 0 ∷ []) 0 ∷ of (0 ∷ []) 3 ∷ []
two_with_len = refl

-- four parts, one advanced, then filled and frozen
four_then_filled : parts_fill (parts_drained (ab 2 ∷ ab 2 ∷ ab 2 ∷ ab 2 ∷ []) 2) (120 ∷ 121 ∷ []) ≡ of
    (120 ∷ 121 ∷ []) 0 ∷ ab 2 ∷ ab 2 ∷ ab 2 ∷ []
four_then_filled = refl

four_frozen : parts_frozen (of (120 ∷ 121 ∷ []) 0 ∷ ab 2 ∷ ab 2 ∷ ab 2 ∷ [])
    ≡ record {
      bytes = 120 ∷ 121 ∷ 97 ∷ 98 ∷ 97 ∷ 98 ∷ 97 ∷ 98 ∷ [];
      mark = native_mark 2;
      cuts = (2, native_mark 4) ∷ (4, native_mark 4) ∷ (6, native_mark 4) ∷ [];
    }
unfolding text_glue
four_frozen = refl

-- parts without bytes are no chunks
one_frozen : parts_frozen (empty_part 3 ∷ ab 2 ∷ empty_part 1 ∷ []) ≡ record { bytes = 97 ∷ 98 ∷ []; mark = native_mark 4; cuts = [] }
one_frozen = refl

-- parts that can't hold a byte are not kept
kept_of_three : kept_parts (empty_part 0 ∷ ab 1 ∷ empty_part 0 ∷ []) ≡ ab 1 ∷ []
kept_of_three = refl

kept_of_none : kept_parts (empty_part 0 ∷ empty_part 0 ∷ []) ≡ empty_part 0 ∷ []
kept_of_none = refl

five_overwritten : parts_overwritten (ab 1 ∷ empty_part 3 ∷ of (99 ∷ []) 0 ∷ of (100 ∷ []) 2 ∷ empty_part 1 ∷ []) (1 ∷ 2 ∷ 3 ∷ 4 ∷ [])
    ≡ of (1 ∷ 2 ∷ []) 1 ∷ empty_part 3 ∷ of (3 ∷ []) 0 ∷ of (4 ∷ []) 2 ∷ empty_part 1 ∷ []
five_overwritten = refl

two_coalesced : parts_coalesced (ab 1 ∷ of (99 ∷ []) 2 ∷ []) ≡ of (97 ∷ 98 ∷ 99 ∷ []) 0
two_coalesced = refl
