-- Bytes are taken with static storage only if their chunk is static.
use Rattle.iobufs.proofs.Text.Known.{Excluded, Included, IsChunkPlace, List, Mark, MarkedText, View, ap, arith, bytes_mark, common_steps, drop, length, length-drop, length-take-le, mark_after, nat_tests, native_mark, of_pieces, part_capacity, part_frozen, piece_at, pieces_bytes, refl, static_mark, subst, sym, take, taken_view, view_len, view_slice, ℕ, ◌+◌, ◌-◌, ◌<◌, ◌∙◌, ◌≡◌, ◌≤◌}
use Rattle.iobufs.proofs.Text.ReadLaws.{length-behind, rest-length, taken-across, taken-within}

abbrev IsStatic : Mark → Type 0
IsStatic static_mark = Unit {0}
IsStatic bytes_mark = ⊥
IsStatic (native_mark room) = ⊥

still-static : (n : ℕ) (mark : Mark) → mark_after n mark ≡ static_mark → mark ≡ static_mark
still-static n static_mark e = refl
still-static n bytes_mark e = absurd (subst IsStatic (sym e) tt)
still-static n (native_mark room) e = absurd (subst IsStatic (sym e) tt)

-- one byte or more inside one chunk are taken with static storage only if that chunk is static
pub static-within : (vs : List View) (t : MarkedText) (skip n i o : ℕ) → of_pieces vs ≡ t → IsChunkPlace vs skip i o
    → skip < length (pieces_bytes vs)
    → 0 < n → n ≤ view_len (piece_at vs i) - o → (taken_view t skip n).mark ≡ static_mark → (piece_at vs i).mark ≡ static_mark
static-within vs t skip n i o e h l some m static =
    still-static o (piece_at vs i).mark
    (sym (grind (arith, nat_tests, common_steps)) ∙ ap (λ (v : View). v.mark) (taken-within vs t skip n i o e h l some m) ∙ static)

mark-frozen : (copy : List ℕ) → 0 < length copy → (part_frozen (record { filled = copy; spare = 0 })).mark
    ≡ native_mark (part_capacity (record { filled = copy; spare = 0 }))
mark-frozen copy some = grind (arith, nat_tests, common_steps)

-- bytes that span chunks are never taken with static storage
pub across-native : (vs : List View) (t : MarkedText) (skip n i o : ℕ) → of_pieces vs ≡ t → IsChunkPlace vs skip i o
    → skip + n ≤ length (pieces_bytes vs)
    → view_len (piece_at vs i) - o < n → (taken_view t skip n).mark ≡ static_mark → ⊥
across-native vs t skip n i o e h l m static =
    let copy = take n (drop o (pieces_bytes (drop i vs))) in
    let some : 0 < length copy = omega (arith, m, copied-length vs skip n i o h l) in
    subst IsStatic (sym static ∙ sym (ap (λ (v : View). v.mark) (taken-across vs t skip n i o copy e h l m refl))
    ∙ mark-frozen copy some) tt
  where
    copied-length : (vs : List View) (skip n i o : ℕ) → IsChunkPlace vs skip i o → skip + n ≤ length (pieces_bytes vs)
        → length (take n (drop o (pieces_bytes (drop i vs)))) ≡ n
    copied-length vs skip n i o h l =
        length-take-le n (drop o (pieces_bytes (drop i vs)))
        (omega (arith, rest-length vs i, length-drop o (pieces_bytes (drop i vs)), h.sum))

-- where bytes are taken inside the first chunk
within-first : (vs : List View) (skip n : ℕ) → 0 < n → skip + n ≤ view_len (piece_at vs 0)
    → IsChunkPlace vs skip 0 skip × (skip < length (pieces_bytes vs)) × (n ≤ view_len (piece_at vs 0) - skip)
within-first vs skip n some inside = ((record { sum = omega arith; inside = (omega arith) }), omega (arith, length-behind vs), omega arith)

-- bytes inside the first chunk are taken as a slice of it
pub taken-first : (vs : List View) (t : MarkedText) (skip n : ℕ) → of_pieces vs ≡ t → 0 < n → skip + n ≤ view_len (piece_at vs 0)
    → view_slice (piece_at vs 0) (Included skip) (Excluded (skip + n)) ≡ taken_view t skip n
taken-first vs t skip n e some inside =
    let (place, below, within) = within-first vs skip n some inside in taken-within vs t skip n 0 skip e place below some within

-- one byte or more inside the first chunk are taken with static storage only if that chunk is static
pub static-first : (vs : List View) (t : MarkedText) (skip n : ℕ) → of_pieces vs ≡ t → 0 < n → skip + n ≤ view_len (piece_at vs 0)
    → (taken_view t skip n).mark ≡ static_mark → (piece_at vs 0).mark ≡ static_mark
static-first vs t skip n e some inside =
    let (place, below, within) = within-first vs skip n some inside in static-within vs t skip n 0 skip e place below some within
