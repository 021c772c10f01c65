use Rattle.std.proofs.Common.{◌≡◌, ◌∙◌, ℕ, ◌+◌, ◌-◌, ◌≤◌, List, ◌++◌, ap, arith, length, length-append, length-drop, length-take, replicate, sym, take}
use Rattle.std.proofs.lemmas.List.{length-replicate, length-take-le, take-append-le, take-take, take_all}
use Rattle.bytes.proofs.Ranges.{take-append_past}
use Rattle.iobufs_core.specs.Part.{Part, part_capacity, part_with_len}
use borrow.Rule.Slice.PartMut.{post_of, put_mid}
use Rattle.iobufs_examples.proofs.fill.read_into.Goals as goal

-- the first bytes of a list that was overwritten from a place on
front : (a k : ℕ) (xs ys : List ℕ) (n : ℕ) → a ≤ length xs → n ≤ length ys → take (a + n) (put_mid a k xs ys) ≡ take a xs ++ take n ys
front a k xs ys n within few =
    take-append_past (take a xs) (ys ++ post_of a k xs) n (a + n) (omega (arith, length-take-le a xs within))
    ∙ ap (λ w. take a xs ++ w) (take-append-le n ys (post_of a k xs) few)

-- a buffer that was lengthened to its capacity begins with its bytes
kept : (part : Part) → take (length part.filled) (part_with_len part (part_capacity part)).filled ≡ part.filled
kept part =
    let cap = part_capacity part in
    let all : take cap part.filled ≡ part.filled = take_all cap part.filled (omega arith) in
    ap (λ w. take (length part.filled) (w ++ replicate (cap - length part.filled) 0)) all
    ∙ take-append-le (length part.filled) part.filled (replicate (cap - length part.filled) 0) (omega arith)
    ∙ take_all (length part.filled) part.filled (omega arith)

pub returns-in-Ok-clause-ok : goal.returns-in-Ok-clause-ok
returns-in-Ok-clause-ok g c =
    let old = c.args.part.now in
    let len = c.len-len.result in
    let cap = c.capacity.result in
    let long = c.set_len.new.self.filled in
    let all = c.as_mut.result.now in
    let got = c.read.new.buf in
    let n = c.in-Ok.n in
    let few = c.in-Ok.ensures.bound.0 in
    let k = length all - len in
    let same : all ≡ (part_with_len old (part_capacity old)).filled =
    c.as_mut.ensures.value ∙ ap (λ (p : Part). p.filled) c.set_len.ensures ∙ ap (λ m. (part_with_len old m).filled) c.capacity.ensures in
    let size : length all ≡ part_capacity old = omega (
      arith,
      ap (λ (w : List ℕ). length w) same,
      length-append (take (part_capacity old) old.filled) (replicate (part_capacity old - length old.filled) 0),
      length-take (part_capacity old) old.filled,
      length-replicate {A = ℕ} (part_capacity old - length old.filled) 0,
    ) in
    let within : len ≤ length all = omega (arith, size, c.len-len.ensures) in
    let fits : len + n ≤ length all = omega (arith, within, few, c.read.auto.buf, length-drop len all) in
    let whole : len + n ≤ length (put_mid len k all got) = omega (
      arith,
      few,
      length-take-le len all within,
      length-append (take len all) (got ++ post_of len k all),
      length-append got (post_of len k all),
    ) in
    let before : take len all ≡ old.filled =
    ap (take len) same ∙ ap (λ m. take m (part_with_len old (part_capacity old)).filled) c.len-len.ensures ∙ kept old in
    let filled : c.truncate.new.self.filled ≡ old.filled ++ take n got = ap (λ (p : Part). p.filled) c.truncate.ensures
    ∙ take-take (len + n) (length long) _ (omega (arith, fits, ap (λ (w : List ℕ). length w) c.as_mut.ensures.value))
    ∙ take-append-le (len + n) (put_mid len k all got) _ whole ∙ front len k all got n within few ∙ ap (λ w. w ++ take n got) before in
    (take n got, sym c.in-Ok.ensures.bound.1, filled, c.in-Ok.ensures.bytes.0)
