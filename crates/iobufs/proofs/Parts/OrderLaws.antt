-- Parts in order, and as they stand in their row, those that are drained after the others.
use Rattle.iobufs.proofs.Text.{AreBehind, AreKept, AreSummed, HaveNoSpare, IsParts, List, MarkedText, Part, [], ap, append-nil, arith, default_text, drop, drop-drop, drop_all, drop_at, empty_part, fill-nil, first_drained, flat_map-append, fold, get_or, in_order, length, length-append, length-drop, length-take, map, nil_from_length, part_capacity, part_drained, part_frozen, part_overwritten, parts_capacity, parts_chunks, parts_fill, parts_filled, parts_frozen, parts_overwritten, refl, same_part, set, subst, sum_by-append, sym, take, take-append-drop, take_all, take_at, text_append, ℕ, ◌++◌, ◌+◌, ◌-◌, ◌<◌, ◌∙◌, ◌∷◌, ◌≡◌, ◌≤◌}
use Rattle.iobufs.proofs.Parts.Frozen.{frozen-none}
use Rattle.iobufs.proofs.Parts.PartChunks.{chunks-both, chunks-none}

-- a row of which none is drained
pub order-none : (row : List Part) (used : ℕ) → used ≡ 0 → in_order row used ≡ row
order-none row used none =
    ap (λ k. drop k row ++ take k row) (omega arith)
    ∙ (λ i. drop_all (length row) row (omega arith) i ++ take_all (length row) row (omega arith) i)

-- a row of which no part is drained is kept, where the sums beside it are its own
pub kept-none : (row : List Part) (used full len capacity : ℕ) → used ≡ 0 → HaveNoSpare full row → AreSummed row len capacity → IsParts row
    → AreKept row used full len capacity
kept-none row used full len capacity none no_spare sums parts = record {
  behind = record {
    within = omega arith;
    empty = ap (λ ps. length (parts_filled ps)) (drop_all (length row - used) row (omega arith));
  };
  no_spare = subst (λ ps. HaveNoSpare full ps) (sym (order-none row used none)) no_spare;
  sums = subst (λ ps. AreSummed ps len capacity) (sym (order-none row used none)) sums;
  parts = subst IsParts (sym (order-none row used none)) parts;
}

-- those at the back are at the front of the others
pub order-both : (others behind : List Part) (used : ℕ) → used ≡ length behind → in_order (others ++ behind) used ≡ behind ++ others
order-both others behind used e =
    ap (λ n. drop n (others ++ behind) ++ take n (others ++ behind)) (omega (arith, length-append others behind))
    ∙ (λ i. drop_at others behind (length others) refl i ++ take_at others behind (length others) refl i)

-- parts without bytes at the back of a row are those that are drained
pub behind-both : (others behind : List Part) (used : ℕ) → used ≡ length behind → length (parts_filled behind) ≡ 0
    → AreBehind (others ++ behind) used
behind-both others behind used e none =
    let sum = length-append others behind in
    record {
      within = omega arith;
      empty = ap (λ ps. length (parts_filled ps)) (drop_at others behind (length (others ++ behind) - used) (omega arith)) ∙ none;
    }

-- there are as many parts in order as in their row
pub order-length : (row : List Part) (used : ℕ) → length (in_order row used) ≡ length row
order-length row used =
    let k = length row - used in
    omega (arith, length-append (drop k row) (take k row), length-drop k row, length-take k row)

-- the bytes of two rows
pub filled-both : (ps qs : List Part) → parts_filled (ps ++ qs) ≡ parts_filled ps ++ parts_filled qs
filled-both ps qs = flat_map-append (λ (p : Part). p.filled) ps qs

-- the bytes of two rows are as many as those of the one and of the other
pub filled-length : (ps qs : List Part) → length (parts_filled (ps ++ qs)) ≡ length (parts_filled ps) + length (parts_filled qs)
filled-length ps qs = ap length (filled-both ps qs) ∙ length-append (parts_filled ps) (parts_filled qs)

frozen-both : (text : MarkedText) (ps qs : List Part)
    → fold text_append text (map part_frozen (ps ++ qs)) ≡ fold text_append (fold text_append text (map part_frozen ps))
    (map part_frozen qs)
frozen-both text [] qs = refl
frozen-both text (p ∷ ps) qs = frozen-both (text_append text (part_frozen p)) ps qs

-- a reader sees the same of the row and of the parts in order
pub filled-order : (row : List Part) (used : ℕ) → AreBehind row used → parts_filled row ≡ parts_filled (in_order row used)
filled-order row used behind =
    let k = length row - used in
    let none = nil_from_length (parts_filled (drop k row)) behind.empty in
    cc (
      take-append-drop k row,
      filled-both (take k row) (drop k row),
      append-nil (parts_filled (take k row)),
      filled-both (drop k row) (take k row),
    )

-- a row has the chunks of its parts in order
pub chunks-order : (row : List Part) (used : ℕ) → AreBehind row used → parts_chunks row ≡ parts_chunks (in_order row used)
chunks-order row used behind =
    let k = length row - used in
    let none = chunks-none (drop k row) behind.empty in
    cc (
      take-append-drop k row,
      chunks-both (take k row) (drop k row),
      append-nil (parts_chunks (take k row)),
      chunks-both (drop k row) (take k row),
    )

-- a row freezes to the text of its parts in order
pub frozen-order : (row : List Part) (used : ℕ) → AreBehind row used → parts_frozen row ≡ parts_frozen (in_order row used)
frozen-order row used behind =
    let k = length row - used in
    ap parts_frozen (sym (take-append-drop k row))
    ∙ frozen-both default_text (take k row) (drop k row) ∙ frozen-none (parts_frozen (take k row)) (drop k row) behind.empty
    ∙ sym (cc (frozen-both default_text (drop k row) (take k row), frozen-none default_text (drop k row) behind.empty))

-- a row has the capacity of its parts in order
pub capacity-order : (row : List Part) (used : ℕ) → parts_capacity row ≡ parts_capacity (in_order row used)
capacity-order row used =
    let k = length row - used in
    omega (
      arith,
      ap parts_capacity (take-append-drop k row),
      sum_by-append part_capacity (take k row) (drop k row),
      sum_by-append part_capacity (drop k row) (take k row),
    )

-- the first part of a row
pub first-filled : (row : List Part) → length (get_or row 0 (empty_part 0)).filled ≤ length (parts_filled row)
first-filled [] = omega arith
first-filled (p ∷ row) = omega (arith, length-append p.filled (parts_filled row))

-- the first part stays in the row
pub first-length : (row : List Part) (n : ℕ) → length (first_drained row n) ≡ length row
first-length [] n = refl
first-length (p ∷ row) n = refl

-- a row in which its first part is put back drained is the row whose first part is drained
pub first-set : (row : List Part) (p q : Part) (n : ℕ) → 0 < length row → p ≡ get_or row 0 p → q ≡ part_drained p n
    → set row 0 q ≡ first_drained row n
first-set [] p q n some first is = absurd (omega arith)
first-set (r ∷ row) p q n some first is = ap (λ x. x ∷ row) (is ∙ ap (λ x. part_drained x n) first)

-- parts are written over where they stand
pub overwritten-both : (ps qs : List Part) (w : List ℕ)
    → parts_overwritten (ps ++ qs) w ≡ parts_overwritten ps w ++ parts_overwritten qs (drop (length (parts_filled ps)) w)
overwritten-both [] qs w = refl
overwritten-both (p ∷ ps) qs w =
    let n = length p.filled in
    let rest = drop-drop (length (parts_filled ps)) n w ∙ ap (λ m. drop m w) (omega (arith, length-append p.filled (parts_filled ps))) in
    ap (λ qs. part_overwritten p (take n w) ∷ qs)
    (overwritten-both ps qs (drop n w) ∙ ap (λ v. parts_overwritten ps (drop n w) ++ parts_overwritten qs v) rest)

-- bytes written over parts that hold none
pub overwritten-empty : (ps : List Part) (w : List ℕ) → length (parts_filled ps) ≡ 0 → parts_overwritten ps w ≡ ps
overwritten-empty [] w none = refl
overwritten-empty (p ∷ ps) w none =
    let both = length-append p.filled (parts_filled ps) in
    let nil = nil_from_length p.filled (omega (arith, both, none)) in
    let bytes = ap (λ (u : List ℕ). take (length u) (take (length u) w ++ drop (length (take (length u) w)) u)) nil ∙ sym nil in
    λ i. (same_part _ p bytes refl) i ∷ (overwritten-empty ps (drop (length p.filled) w) (omega (arith, both, none))) i

-- bytes written over the parts of a row are written over the parts in order, and those that are drained stay at the back
pub overwritten-order : (row new : List Part) (used : ℕ) (w : List ℕ) → AreBehind row used → new ≡ parts_overwritten row w
    → (in_order new used ≡ parts_overwritten (in_order row used) w) × AreBehind new used
overwritten-order row new used w behind is =
    let k = length row - used in
    let others = take k row in
    let last = drop k row in
    let count : used ≡ length last = omega (arith, length-drop k row, behind.within) in
    let whole = is ∙ ap (λ ps. parts_overwritten ps w) (sym (take-append-drop k row)) ∙ overwritten-both others last w
    ∙ ap (λ ps. parts_overwritten others w ++ ps) (overwritten-empty last (drop (length (parts_filled others)) w) behind.empty) in
    let turned = overwritten-both last others w
    ∙ (λ i. overwritten-empty last w behind.empty i ++ parts_overwritten others (drop (behind.empty i) w)) in (
      ap (λ ps. in_order ps used) whole ∙ order-both (parts_overwritten others w) last used count ∙ sym turned,
      subst (λ ps. AreBehind ps used) (sym whole) (behind-both (parts_overwritten others w) last used count behind.empty),
    )

-- nothing is filled in
pub fill-nothing : (parts : List Part) (w : List ℕ) → length w ≡ 0 → parts_fill parts w ≡ parts
fill-nothing parts w none = ap (parts_fill parts) (nil_from_length w none) ∙ fill-nil parts

pub ruleset ordered = (order-none, order-length, fill-nothing)
