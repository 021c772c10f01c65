use Rattle.iobufs.proofs.Text.{AreBehind, List, Part, ap, append-nil, append_assoc, arith, deque_iter_rest, in_order, length, length-append, nil_from_length, option_to_list, part_put, parts_filled, sym, ℕ, ◌++◌, ◌+◌, ◌∙◌, ◌∷◌, ◌≡◌}
use Rattle.iobufs.proofs.Parts.{filled-order}
use Rattle.iobufs.proofs.bufs_mut.several.Several.coalesce.Goals as goal

-- the bytes of a row are those of its first part and then those of the rest
filled-first : (row rest : List Part) (first : Part) (used len : ℕ) → row ≡ first ∷ rest → AreBehind row used
    → len ≡ length (parts_filled (in_order row used))
    → (first.filled ++ parts_filled rest ≡ parts_filled (in_order row used)) × (len ≡ length first.filled + length (parts_filled rest))
filled-first row rest first used len is behind sum =
    let bytes : first.filled ++ parts_filled rest ≡ parts_filled (in_order row used) =
    ap parts_filled (sym is) ∙ filled-order row used behind in
    (bytes, omega (arith, sum, ap length bytes, length-append first.filled (parts_filled rest)))

pub grown-requires : goal.grown-requires
grown-requires c =
    let s = c.self.inside in
    let rest = c.pop_front.new.self.items in
    let row = c.pop_front.ensures.items ∙ ap (λ o. option_to_list o ++ rest) c.unwrap-first.ensures in
    let (bytes, sum) = filled-first s.row.items rest c.unwrap-first.result s.used s.len row c.self.invariant.behind
    c.self.invariant.sums.len_is in
    omega (arith, sum)

pub loop-part-init : goal.loop-part-init
loop-part-init c =
    let s = c.self.inside in
    let rest = c.pop_front.new.self.items in
    let row = c.pop_front.ensures.items ∙ ap (λ o. option_to_list o ++ rest) c.unwrap-first.ensures in
    let (bytes, sum) = filled-first s.row.items rest c.unwrap-first.result s.used s.len row c.self.invariant.behind
    c.self.invariant.sums.len_is in
    let left = c.into_iter-part-iterator.ensures.into_iter_gives.0 in
    let whole = c.in_ok-whole.ensures.ok in
    record {
      fits = omega (arith, sum, ap length whole.0, whole.1, ap (λ ps. length (parts_filled ps)) left);
      so_far = (λ i. whole.0 i ++ parts_filled (left i)) ∙ bytes ∙ ap parts_filled c.self.view_is;
    }

pub loop-part-preserved : goal.loop-part-preserved
loop-part-preserved c =
    let l = c.loop-part in
    let part = c.in-Some.part.now in
    let rest = parts_filled (deque_iter_rest c.next.new.self) in
    let left : parts_filled (deque_iter_rest l.part-iterator) ≡ part.filled ++ rest = ap parts_filled c.in-Some.ensures.steps in
    let put = c.put_share.ensures ∙ ap (part_put l.whole) c.as_ref.ensures in
    record {
      fits = omega (arith, l.invariant.fits, ap length left, length-append part.filled rest, ap (λ (p : Part). p.spare) put);
      so_far = ap (λ (p : Part). p.filled ++ rest) put ∙ append_assoc l.whole.filled part.filled rest
          ∙ ap (λ bytes. l.whole.filled ++ bytes) (sym left) ∙ l.invariant.so_far;
    }

pub returns-clause-ok : goal.returns-clause-ok
returns-clause-ok c =
    let l = c.loop-part in
    let none = nil_from_length _ c.in-None.ensures.steps.0 in
    let all = sym (append-nil l.whole.filled) ∙ ap (λ ps. l.whole.filled ++ parts_filled ps) (sym none) ∙ l.invariant.so_far in
    c.close.ensures ∙ (λ i. record { filled = all i; spare = 0 })
