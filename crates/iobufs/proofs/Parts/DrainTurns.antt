-- A row of parts whose bytes are dropped, part by part.
use Rattle.iobufs.proofs.Text.{AreBehind, AreKept, HaveCapacity, HaveNoSpare, IsParts, List, Part, [], ap, append_assoc, arith, drop, drop_all, empty_part, first_drained, get_or, in_order, kept_parts, length, length-append, length-drop, length-take, part_capacity, part_drained, parts_capacity, parts_drained, parts_fill, parts_filled, parts_or_default, parts_shared_out, parts_spare, refl, subst, sum_by_push, sym, take, take-append-drop, ℕ, ◌++◌, ◌+◌, ◌-◌, ◌<◌, ◌^◌, ◌∙◌, ◌∷◌, ◌≡◌, ◌≤◌}
use Rattle.std.proofs.Math.Seq.{take-append_seam}
use Rattle.iobufs.proofs.Parts.DrainShapes.{able-both, able-front, able-rest, capacity-shared_out, shared_out-behind, shared_out-first, shared_out-none, with_capacity-spent}
use Rattle.iobufs.proofs.Parts.FullLaws.{full-drained, full-push}
use Rattle.iobufs.proofs.Parts.OrderLaws.{behind-both, filled-length, filled-order, first-filled, kept-none, order-both, order-length}
use Rattle.iobufs.proofs.Parts.PartLaws.{parts-fill}
use Rattle.iobufs.proofs.Parts.PartRuns.{drained-parts, kept-same, parts-kept, parts-push}
use Rattle.iobufs.proofs.Parts.SumLaws.{summed-drained, summed-fill}

-- n more bytes are to go from a row of which so many parts are drained; what is left then
pub record IsDraining (row : List Part) (used n : ℕ) (left : List Part) : Type 0 where
  pub others : List Part
  pub behind : List Part
  pub row_is : row ≡ others ++ behind
  pub used_is : used ≡ length behind
  pub empty : length (parts_filled behind) ≡ 0
  pub one : 0 < length (behind ++ others)
  pub have_capacity : 1 < length (behind ++ others) → HaveCapacity (behind ++ others)
  pub some : n ≤ length (parts_filled others)
  pub left_is : kept_parts (behind ++ parts_shared_out others n) ≡ left

-- a draining of no more bytes than there are begins; it is to leave what draining leaves
pub draining-begins : (row : List Part) (used n : ℕ) → AreBehind row used → IsParts (in_order row used) → n ≤ length (parts_filled row)
    → IsDraining row used n (parts_drained (in_order row used) n)
draining-begins row used n behind parts some =
    let k = length row - used in
    record {
      others = take k row;
      behind = drop k row;
      row_is = sym (take-append-drop k row);
      used_is = omega (arith, length-drop k row, behind.within);
      empty = behind.empty;
      one = parts.some;
      have_capacity = parts.have_capacity;
      some = omega (
        arith,
        ap (λ ps. length (parts_filled ps)) (take-append-drop k row),
        filled-length (take k row) (drop k row),
        behind.empty,
        some,
      );
      left_is = ap kept_parts (sym (shared_out-behind (drop k row) (take k row) n behind.empty))
          ∙ sym (drained-parts (in_order row used) n parts);
    }

-- where no bytes are to go any more, the parts in order are those that were to be left, and those that are drained stand at the back
pub draining-ends : (row : List Part) (used n : ℕ) (left : List Part) → n ≡ 0 → IsDraining row used n left
    → (in_order row used ≡ left) × AreBehind row used
draining-ends row used n left none d =
    let placed = ap (λ ps. in_order ps used) d.row_is ∙ order-both d.others d.behind used d.used_is in
    let same = ap (parts_shared_out d.others) none ∙ shared_out-none d.others in
    let all = kept-same (d.behind ++ d.others) d.one d.have_capacity ∙ ap (λ ps. kept_parts (d.behind ++ ps)) (sym same) ∙ d.left_is in
    (placed ∙ all, subst (λ ps. AreBehind ps used) (sym d.row_is) (behind-both d.others d.behind used d.used_is d.empty))

-- where bytes are to go there is a part that isn't drained
first_of : (others : List Part) (n : ℕ) → 0 < n → n ≤ length (parts_filled others) → (p : Part) × (rest : List Part) × (others ≡ p ∷ rest)
first_of [] n more some = absurd (omega arith)
first_of (p ∷ rest) n more some = (p, rest, refl)

-- if the first entry of the deque holds bytes, some buffer is not drained
first_behind : (others behind : List Part) (n : ℕ) → length (parts_filled behind) ≡ 0
    → n < length (get_or (others ++ behind) 0 (empty_part 0)).filled
    → (p : Part) × (rest : List Part) × (others ≡ p ∷ rest)
first_behind [] behind n none less = absurd (omega (arith, first-filled behind, none, less))
first_behind (p ∷ rest) behind n none less = (p, rest, refl)

-- the first part holds more than is to go
pub draining-stops : (row new : List Part) (used n : ℕ) (left : List Part) → IsDraining row used n left
    → n < length (get_or row 0 (empty_part 0)).filled → new ≡ first_drained row n → IsDraining new used 0 left
draining-stops row new used n left d less drained =
    let (p, rest, are) = first_behind d.others d.behind n d.empty
    (subst (λ (ps : List Part). n < length (get_or ps 0 (empty_part 0)).filled) d.row_is less) in
    let row_is : row ≡ p ∷ (rest ++ d.behind) = d.row_is ∙ ap (λ ps. ps ++ d.behind) are in
    let inside : n < length p.filled = subst (λ (ps : List Part). n < length (get_or ps 0 (empty_part 0)).filled) row_is less in
    let after = length-append d.behind (part_drained p n ∷ rest) in
    record {
      others = part_drained p n ∷ rest;
      behind = d.behind;
      row_is = drained ∙ ap (λ ps. first_drained ps n) row_is;
      used_is = d.used_is;
      empty = d.empty;
      one = omega (arith, after);
      have_capacity = λ more.
          let all = d.have_capacity (omega (
            arith,
            (ap (λ (ps : List Part). length ps) are),
            length-append d.behind d.others,
            after,
            more,
          )) in
          let able = subst HaveCapacity are (able-rest d.behind d.others all) in
          able-both d.behind (part_drained p n ∷ rest) (able-front d.behind d.others all) (omega (arith, length-drop n p.filled), able.1);
      some = omega arith;
      left_is = cc (shared_out-none (part_drained p n ∷ rest), shared_out-first p rest n inside, d.left_is);
    }

-- the first buffer, of `len` bytes, is drained: it goes after the others
module _ (row rest : List Part) (p q : Part) (used n len : ℕ) (left : List Part) (d : IsDraining row used n left) (more : 0 < n)
    (front : row ≡ p ∷ rest)
    (len_is : len ≡ length p.filled) (most : len ≤ n) (is : q ≡ part_drained p len) where
  -- p is the first of the buffers that aren't drained, and the rest is the others of these and then the drained ones
  first_is : (others : List Part) × (d.others ≡ p ∷ others) × (rest ≡ others ++ d.behind)
  first_is =
      let (r, others, are) = first_of d.others n more d.some in
      (others, are ∙ ap (λ x. x ∷ others) (sym (cc)), (cc))

  gone : q ≡ part_drained p n
  gone =
      is ∙ (λ i. record { filled = (drop_all len p.filled (omega arith) ∙ sym (drop_all n p.filled (omega arith))) i; spare = p.spare })

  shared : (others : List Part) → d.others ≡ p ∷ others → kept_parts (d.behind ++ q ∷ parts_shared_out others (n - len)) ≡ left
  shared others are =
      ap (λ x. kept_parts (d.behind ++ x ∷ parts_shared_out others (n - len))) gone
      ∙ ap (λ m. kept_parts (d.behind ++ part_drained p n ∷ parts_shared_out others (n - m))) len_is
      ∙ ap (λ ps. kept_parts (d.behind ++ parts_shared_out ps n)) (sym are) ∙ d.left_is

  fewer : (others : List Part) → d.others ≡ p ∷ others → n - len ≤ length (parts_filled others)
  fewer others are = omega (arith, d.some, ap (λ ps. length (parts_filled ps)) are, length-append p.filled (parts_filled others))

  -- the parts that there were, where there were two or more, could each hold a byte
  able_all : (others : List Part) → d.others ≡ p ∷ others → 1 < length (d.behind ++ p ∷ others) → HaveCapacity (d.behind ++ p ∷ others)
  able_all others are = subst (λ (ps : List Part). 1 < length (d.behind ++ ps) → HaveCapacity (d.behind ++ ps)) are d.have_capacity

  pub draining-kept : (new : List Part) → (1 < length new → 0 < part_capacity q) → new ≡ rest ++ q ∷ []
      → IsDraining new (used + 1) (n - len) left
  draining-kept new able last =
      let (others, are, tail) = first_is in
      let none : length q.filled ≡ 0 = omega (arith, ap (λ (x : Part). length x.filled) is, length-drop len p.filled) in
      let count = ap (λ (ps : List Part). length ps) (last ∙ ap (λ ps. ps ++ q ∷ []) tail) in
      let ahead = length-append d.behind (q ∷ []) in
      let after = length-append (d.behind ++ q ∷ []) others in
      record {
        others = others;
        behind = d.behind ++ q ∷ [];
        row_is = last ∙ ap (λ ps. ps ++ q ∷ []) tail ∙ append_assoc others d.behind (q ∷ []);
        used_is = omega (arith, ahead, d.used_is);
        empty = omega (arith, filled-length d.behind (q ∷ []), length-append q.filled [], none, d.empty);
        one = omega (arith, ahead, after);
        have_capacity = λ more.
            let all = able_all others are (omega (arith, (length-append d.behind (p ∷ others)), ahead, after, more)) in
            let last_able = able (omega (
              arith,
              count,
              (length-append (others ++ d.behind) (q ∷ [])),
              (length-append others d.behind),
              ahead,
              after,
              more,
            )) in
            able-both (d.behind ++ q ∷ []) others (able-both d.behind (q ∷ []) (able-front d.behind (p ∷ others) all) (last_able, tt))
            (able-rest d.behind (p ∷ others) all).1;
        some = fewer others are;
        left_is = ap kept_parts (append_assoc d.behind (q ∷ []) (parts_shared_out others (n - len))) ∙ shared others are;
      }

  -- or it is dropped, where it can't hold a byte and others are left
  pub draining-spent : part_capacity q ≡ 0 → 0 < length rest → IsDraining rest used (n - len) left
  draining-spent none beside =
      let (others, are, tail) = first_is in
      let after = length-append d.behind others in
      record {
        others = others;
        behind = d.behind;
        row_is = tail;
        used_is = d.used_is;
        empty = d.empty;
        one = omega (arith, (ap (λ (ps : List Part). length ps) tail), (length-append others d.behind), after, beside);
        have_capacity = λ more.
            let all = able_all others are (omega (arith, (length-append d.behind (p ∷ others)), after, more)) in
            able-both d.behind others (able-front d.behind (p ∷ others) all) (able-rest d.behind (p ∷ others) all).1;
        some = fewer others are;
        left_is = sym (ap parts_or_default (with_capacity-spent d.behind (parts_shared_out others (n - len)) q none)) ∙ shared others are;
      }

-- the first part goes whole, where others are left
pub front-taken : (row rest : List Part) (used n : ℕ) (bytes : List ℕ) → AreBehind row used → IsParts (in_order row used) → 0 < n
    → row ≡ record { filled = bytes; spare = 0 } ∷ rest → length bytes ≡ n → 0 < length rest
    → (in_order rest used ≡ parts_drained (in_order row used) n) × AreBehind rest used
front-taken row rest used n bytes behind parts more front len_is beside =
    let p : Part = record { filled = bytes; spare = 0 } in
    let some : n ≤ length (parts_filled row) =
    omega (arith, ap (λ ps. length (parts_filled ps)) front, length-append bytes (parts_filled rest), len_is) in
    let begun = draining-begins row used n behind parts some in
    draining-ends rest used (n - n) _ (omega arith)
    (draining-spent row rest p (part_drained p n) used n n _ begun more front (sym len_is) (omega arith) refl
    (omega (arith, length-drop n bytes, len_is)) beside)

-- its bytes are the first ones
pub front-filled : (row rest : List Part) (used n : ℕ) (bytes : List ℕ) → AreBehind row used
    → row ≡ record { filled = bytes; spare = 0 } ∷ rest → length bytes ≡ n → bytes ≡ take n (parts_filled (in_order row used))
front-filled row rest used n bytes behind front len_is =
    sym (take-append_seam bytes (parts_filled rest)) ∙ ap (λ k. take k (bytes ++ parts_filled rest)) len_is
    ∙ ap (λ ps. take n (parts_filled ps)) (sym front) ∙ ap (take n) (filled-order row used behind)

pub front-fits : (row rest : List Part) (used n : ℕ) (bytes : List ℕ) → AreBehind row used
    → row ≡ record { filled = bytes; spare = 0 } ∷ rest → length bytes ≡ n → n ≤ length (parts_filled (in_order row used))
front-fits row rest used n bytes behind front len_is = omega (
  arith,
  ap length (front-filled row rest used n bytes behind front len_is),
  length-take n (parts_filled (in_order row used)),
  len_is,
)

-- the first part alone loses bytes
pub shortened-row : (row new : List Part) (used n : ℕ) → AreBehind row used → IsParts (in_order row used)
    → n ≤ length (parts_filled (in_order row used))
    → n < length (get_or row 0 (empty_part 0)).filled → new ≡ first_drained row n
    → (in_order new used ≡ parts_drained (in_order row used) n) × AreBehind new used
shortened-row row new used n behind parts some less drained =
    let fits = ap length (filled-order row used behind) in
    draining-ends new used 0 _ refl (draining-stops row new used n _ (draining-begins row used n behind parts (omega arith)) less drained)

-- the buffers that draining leaves keep their invariant, with their sums
pub kept-drained-row : (row new : List Part) (used behind n full still len capacity : ℕ) → AreKept row used full len capacity
    → n ≤ length (parts_filled (in_order row used)) → in_order new behind ≡ parts_drained (in_order row used) n → AreBehind new behind
    → still ≡ full - (length row - length new) → AreKept new behind still (len - n) (capacity - n)
kept-drained-row row new used behind n full still len capacity kept some is are still_is =
    let all = in_order row used in
    let fits : parts_capacity (parts_shared_out all n) < 2 ^ 64 = omega (arith, capacity-shared_out all n, kept.parts.fits) in
    let count : still ≡ full - (length all - length (parts_drained all n)) =
    omega (arith, still_is, order-length row used, order-length new behind, ap (λ (ps : List Part). length ps) is) in
    record {
      behind = are;
      no_spare = subst (λ ps. HaveNoSpare still ps) (sym is) (full-drained still full n all kept.no_spare kept.parts count);
      sums = summed-drained all (in_order new behind) n len capacity kept.sums some is;
      parts = subst IsParts (sym (is ∙ drained-parts all n kept.parts)) (parts-kept (parts_shared_out all n) fits);
    }

-- a part that can hold a byte, put after two or more in order, is kept with their sums
pub kept-pushed : (row new : List Part) (used none : ℕ) (p : Part) (full len capacity n m : ℕ)
    → AreKept row used full len capacity → new ≡ in_order row used ++ p ∷ [] → none ≡ 0 → 1 < length (in_order row used)
    → 0 < part_capacity p → parts_capacity (in_order row used) + part_capacity p < 2 ^ 64
    → n ≡ length p.filled → m ≡ part_capacity p → AreKept new none full (len + n) (capacity + m)
kept-pushed row new used none p full len capacity n m kept is zero several more fits len_is capacity_is =
    let all = in_order row used in
    let bytes = ap (λ ps. length (parts_filled ps)) is ∙ filled-length all (p ∷ []) in
    let sum = ap parts_capacity is ∙ sum_by_push part_capacity all p in
    let last = length-append p.filled [] in
    kept-none new none full (len + n) (capacity + m) zero
    (subst (λ ps. HaveNoSpare full ps) (sym is) (full-push full all (p ∷ []) kept.no_spare))
    (record {
      len_is = omega (arith, bytes, last, kept.sums.len_is, len_is);
      capacity_is = omega
          (arith, sum, kept.sums.capacity_is, capacity_is);
    })
    (subst IsParts (sym is) (parts-push all p kept.parts several more fits))

-- bytes put into parts in order, where there is room for them, are kept with their sums
pub kept-filled : (row new : List Part) (used none known full len capacity : ℕ) (w : List ℕ) → AreKept row used known len capacity
    → none ≡ 0 → new ≡ parts_fill (in_order row used) w → HaveNoSpare full new → length w ≤ parts_spare (in_order row used)
    → AreKept new none full (len + length w) capacity
kept-filled row new used none known full len capacity w kept zero is no_spare some =
    let all = in_order row used in
    kept-none new none full (len + length w) capacity zero no_spare
    (summed-fill all new w len capacity kept.sums some is) (subst IsParts (sym is) (parts-fill all w kept.parts))
