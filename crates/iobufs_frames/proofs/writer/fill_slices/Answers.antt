use Rattle.std.proofs.Common.{◌≡◌, ◌∙◌, ℕ, ◌+◌, ◌-◌, ◌≤◌, ◌<◌, List, ◌∷◌, ◌++◌, ap, append_assoc, arith, drop, length, length-append, length-drop, length-take, subst, sym, take}
use Rattle.std.proofs.Math.Seq.{take-append-add}
use Rattle.std.proofs.lemmas.List.{take-append-le}
use Rattle.std.proofs.lemmas.List.Concat.{flat_map-append}
use Rattle.std.specs.Io.Slices.{io_slice_bytes, io_slices_bytes}
use Rattle.std.specs.VecDeque.Iter.{deque_iter_rest}
use Rattle.std.specs.declared.io.slices.IoSlice.{IoSlice}
use Rattle.iobufs_frames.specs.Unsent.{IsFront, frames_bytes}
use Rattle.iobufs_frames.proofs.writer.fill_slices.Goals as goal
use borrow.Rule.Slice.PartMut.{post_of, put_mid}

-- bytes follow a prefix
front_on : (batch bytes rest : List ℕ) → IsFront batch bytes → IsFront batch (bytes ++ rest)
front_on batch bytes rest (left, is) = (left ++ rest, ap (λ w. w ++ rest) is ∙ append_assoc batch left rest)

-- the chunks of one frame more
filled_bytes : (dst more : List IoSlice) (count k n : ℕ) → count ≤ length dst → n ≤ length more
    → io_slices_bytes (take (count + n) (put_mid count k dst more)) ≡ io_slices_bytes (take count dst) ++ io_slices_bytes (take n more)
filled_bytes dst more count k n within fits =
    let long : count ≡ length (take count dst) = omega (arith, within, length-take count dst) in
    ap io_slices_bytes (ap (λ m. take (m + n) (put_mid count k dst more)) long
    ∙ take-append-add (take count dst) (more ++ post_of count k dst) n
    ∙ ap (λ slices. take count dst ++ slices) (take-append-le n more (post_of count k dst) fits))
    ∙ flat_map-append io_slice_bytes (take count dst) (take n more)

filled_length : (dst more : List IoSlice) (count k : ℕ) → count ≤ length dst → length more ≡ k → k ≡ length dst - count
    → length (put_mid count k dst more) ≡ length dst
filled_length dst more count k within long rest =
    omega (
      arith,
      within,
      long,
      rest,
      length-append (take count dst) (more ++ post_of count k dst),
      length-append more (post_of count k dst),
      length-take count dst,
      length-drop count dst,
      length-drop k (drop count dst),
    )

-- a prefix of the next frame follows the frames before it
front_more : (batch next frame left all : List ℕ) → batch ++ (frame ++ left) ≡ all → IsFront next frame → IsFront (batch ++ next) all
front_more batch next frame left all whole (rest, is) = (
  rest ++ left,
  sym whole ∙ ap (λ w. batch ++ (w ++ left)) is ∙ ap (λ w. batch ++ w) (append_assoc next rest left)
      ∙ sym (append_assoc batch next (rest ++ left)),
)

pub loop-frame-init : goal.loop-frame-init
loop-frame-init c =
    let f = c.fill_slices-count in
    let behind = frames_bytes c.args.more.now.items in record {
      room = f.ensures.room;
      few = omega (arith, f.ensures.few, f.ensures.room);
      front = front_on _ c.args.rest.now.bytes behind f.ensures.front;
      whole = λ few. (λ i. f.ensures.whole (omega (arith, few, f.ensures.room)) i
          ++ frames_bytes (c.into_iter-frame-iterator.ensures.into_iter_gives.0 i));
    }

pub loop-frame-preserved : goal.loop-frame-preserved
loop-frame-preserved c =
    let l = c.loop-frame in
    let f = c.fill_slices-count-in-loop-frame in
    let all = frames_bytes (c.args.rest.now ∷ c.args.more.now.items) in
    let left = frames_bytes (deque_iter_rest c.next.new.self) in
    let batch = io_slices_bytes (take l.count l.dst) in
    let next = io_slices_bytes (take f.result f.new.dst) in
    let k = length l.dst - l.count in
    let size : length f.new.dst ≡ k = omega (
      arith,
      f.ensures.room,
      l.invariant.few,
      length-take k (drop l.count l.dst),
      length-drop l.count l.dst,
    ) in
    let space : l.count < length l.dst = omega (arith, l.invariant.few, c.if-count-dst.false) in
    let filled = filled_bytes l.dst f.new.dst l.count k f.result l.invariant.few (omega (arith, f.ensures.few, f.ensures.room)) in
    let whole : batch ++ (c.in-Some.frame.now.bytes ++ left) ≡ all =
    ap (λ frames. batch ++ frames_bytes frames) (sym c.in-Some.ensures.steps) ∙ l.invariant.whole space in
    let long : length (put_mid l.count k l.dst f.new.dst) ≡ length l.dst = filled_length l.dst f.new.dst l.count k l.invariant.few size
    (omega arith) in record {
      room = long ∙ l.invariant.room;
      few = omega (arith, long, f.ensures.few, f.ensures.room, size, l.invariant.few);
      front = subst (λ (w : List ℕ). IsFront w all) (sym filled)
          (front_more batch next c.in-Some.frame.now.bytes left all whole f.ensures.front);
      whole = λ few. ap (λ w. w ++ left) filled ∙ append_assoc batch next left
          ∙ ap (λ w. batch ++ (w ++ left)) (f.ensures.whole (omega (arith, few, long, f.ensures.room, size, l.invariant.few))) ∙ whole;
    }
