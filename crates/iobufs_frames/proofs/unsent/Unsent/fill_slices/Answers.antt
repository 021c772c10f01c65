use Rattle.std.proofs.Common.{◌≡◌, ◌∙◌, ℕ, ◌+◌, ◌-◌, ◌≤◌, ◌<◌, List, [], ◌∷◌, ◌++◌, ap, append_assoc, arith, drop, flat_map, length, length-set, length-take, map, set, subst, suc, sym, take, take-append-drop}
use Rattle.std.proofs.lemmas.List.{length-map, nil_from_length, take-append-le, take_all}
use borrow.Rule.Slice.PartMut.{post_of, put_mid}
use Rattle.std.proofs.lemmas.Bool.Decides.{nat_tests}
use Rattle.std.proofs.lemmas.Grind.{common_steps}
use Rattle.std.proofs.lemmas.List.Concat.{flat_map-append}
use Rattle.iobufs.proofs.CallerFacts.{batch_bytes}
use Rattle.iobufs.specs.Laws.Reading.{joined-chunks}
use Rattle.std.specs.Io.Slices.{io_slice_bytes, io_slices_bytes}
use Rattle.std.specs.declared.io.slices.IoSlice.{IoSlice}
use Rattle.iobufs_core.specs.MarkedText.{MarkedText, text_chunks}
use Rattle.iobufs_frames.specs.Unsent.{IsFront, UnsentBytes}
use Rattle.iobufs_frames.proofs.unsent.Unsent.fill_slices.Goals as goal

-- the first chunks of a text, at most so many, are a prefix of its bytes
batch_front : (slices : List IoSlice) (text : MarkedText) (most : ℕ) → map io_slice_bytes slices ≡ take most (text_chunks text)
    → IsFront (io_slices_bytes slices) text.bytes
batch_front slices text most is = (
  flat_map (λ chunk. chunk) (drop most (text_chunks text)),
  sym (joined-chunks text) ∙ ap (λ chunks. flat_map (λ chunk. chunk) chunks) (sym (take-append-drop most (text_chunks text)))
      ∙ flat_map-append (λ (chunk : List ℕ). chunk) (take most (text_chunks text)) (drop most (text_chunks text))
      ∙ ap (λ w. w ++ flat_map (λ chunk. chunk) (drop most (text_chunks text))) (sym (batch_bytes io_slice_bytes slices text most is)),
)

-- fewer chunks than that are all
batch_whole : (slices : List IoSlice) (text : MarkedText) (most : ℕ) → map io_slice_bytes slices ≡ take most (text_chunks text)
    → length slices < most → io_slices_bytes slices ≡ text.bytes
batch_whole slices text most is few =
    batch_bytes io_slice_bytes slices text most is
    ∙ ap (λ chunks. flat_map (λ chunk. chunk) chunks) (take_all most (text_chunks text) (omega (
      arith,
      few,
      length-map slices io_slice_bytes,
      ap (λ (chunks : List (List ℕ)). length chunks) is,
      length-take most (text_chunks text),
    )))
    ∙ joined-chunks text

-- the length's chunk is first, and the others follow it
first_filled : (dst more : List IoSlice) (slice : IoSlice) (k n : ℕ) → 0 < length dst → n ≤ length more
    → take (1 + n) (put_mid 1 k (set dst 0 slice) more) ≡ slice ∷ take n more
first_filled [] more slice k n some fits = absurd (omega (arith, some))
first_filled (d ∷ dst) more slice k n some fits =
    let next : 1 + n ≡ suc n = omega arith in
    ap (λ m. take m (slice ∷ (more ++ post_of 1 k (slice ∷ dst)))) next
    ∙ ap (λ slices. slice ∷ slices) (take-append-le n more (post_of 1 k (slice ∷ dst)) fits)

first_bytes : (dst more : List IoSlice) (slice : IoSlice) (k n : ℕ) (head : List ℕ) → 0 < length dst → n ≤ length more
    → io_slice_bytes slice ≡ head
    → io_slices_bytes (take (1 + n) (put_mid 1 k (set dst 0 slice) more)) ≡ head ++ io_slices_bytes (take n more)
first_bytes dst more slice k n head some fits is =
    ap io_slices_bytes (first_filled dst more slice k n some fits) ∙ ap (λ w. w ++ io_slices_bytes (take n more)) is

-- a length, and a prefix of the body
headed_front : (head batch body bytes : List ℕ) → head ++ body ≡ bytes → IsFront batch body → IsFront (head ++ batch) bytes
headed_front head batch body bytes whole (rest, is) =
    (rest, sym whole ∙ ap (λ w. head ++ w) is ∙ sym (append_assoc head batch rest))

pub returns-then-is_empty-clause-front : goal.returns-then-is_empty-clause-front
returns-then-is_empty-clause-front c =
    let none : [] ≡ c.self.inside.head.filled =
    sym (nil_from_length c.self.inside.head.filled (grind (arith, common_steps, nat_tests, c.as_slice-head.ensures))) in
    let whole = ap (λ w. w ++ c.self.inside.body.bytes) none ∙ ap (λ (u : UnsentBytes). u.bytes) c.self.view_is in
    headed_front [] _ _ _ whole (batch_front _ _ _ c.fill_slices.ensures.chunks)

pub returns-then-is_empty-clause-whole : goal.returns-then-is_empty-clause-whole
returns-then-is_empty-clause-whole c = λ few.
    let none : [] ≡ c.self.inside.head.filled =
    sym (nil_from_length c.self.inside.head.filled (grind (arith, common_steps, nat_tests, c.as_slice-head.ensures))) in
    let whole = ap (λ w. w ++ c.self.inside.body.bytes) none ∙ ap (λ (u : UnsentBytes). u.bytes) c.self.view_is in
    batch_whole _ c.self.inside.body (length c.args.dst.now) c.fill_slices.ensures.chunks
    (omega (arith, few, length-take c.fill_slices.result c.fill_slices.new.dst)) ∙ whole

pub returns-clause-front : goal.returns-clause-front
returns-clause-front c =
    let filled = first_bytes c.args.dst.now c.fill_slices-2.new.dst c.new.result (length (set c.args.dst.now 0 c.new.result) - 1)
    c.fill_slices-2.result c.self.inside.head.filled (grind (arith, nat_tests))
    (omega (arith, c.fill_slices-2.ensures.few, c.fill_slices-2.ensures.room)) (c.new.ensures ∙ c.as_slice-head.ensures) in
    subst (λ (w : List ℕ). IsFront w c.args.self.now.bytes) (sym filled)
    (headed_front c.self.inside.head.filled _ c.self.inside.body.bytes _ (ap (λ (u : UnsentBytes). u.bytes) c.self.view_is)
    (batch_front (take c.fill_slices-2.result c.fill_slices-2.new.dst) c.self.inside.body _ c.fill_slices-2.ensures.chunks))

pub returns-clause-whole : goal.returns-clause-whole
returns-clause-whole c = λ few.
    first_bytes c.args.dst.now c.fill_slices-2.new.dst c.new.result (length (set c.args.dst.now 0 c.new.result) - 1)
    c.fill_slices-2.result c.self.inside.head.filled (grind (arith, nat_tests))
    (omega (arith, c.fill_slices-2.ensures.few, c.fill_slices-2.ensures.room)) (c.new.ensures ∙ c.as_slice-head.ensures)
    ∙ ap (λ w. c.self.inside.head.filled ++ w)
    (batch_whole (take c.fill_slices-2.result c.fill_slices-2.new.dst) c.self.inside.body _ c.fill_slices-2.ensures.chunks
    (omega (
      arith,
      few,
      c.fill_slices-2.ensures.room,
      length-take c.fill_slices-2.result c.fill_slices-2.new.dst,
      length-set c.args.dst.now 0 c.new.result,
    )))
    ∙ ap (λ (u : UnsentBytes). u.bytes) c.self.view_is
