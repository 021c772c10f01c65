-- Frames at the front of received bytes.
use Rattle.std.proofs.Common.{◌≡◌, inr, ℕ, ◌+◌, ◌-◌, ◌<◌, true, Result, Ok, Err, IfOk, OnErr, List, ◌++◌, length, take, drop, ap, sym, subst, ◌∙◌, arith, length-append, length-drop, take-append-drop}
use Rattle.std.proofs.lemmas.List.{drop-take}
use Rattle.bytes.specs.Filled.{Filled}
use Rattle.iobufs_core.specs.View.{View, view_of_bytes}
use Rattle.iobufs_core.specs.WireLaws.{view_of_bytes-bytes}
use Rattle.iobufs_core.specs.declared.codec.base.RangeCfg.{RangeCfg}
use Rattle.iobufs_frames.proofs.LayoutFacts.{IsSized, frame_seen, length-later_in, parts_at, seen_within}
use Rattle.iobufs_frames.specs.Frames.{IsAtFront, LacksFrame, Parts}
use Rattle.iobufs_frames.specs.Prefixes.{IsSeenIn, admits}
use Rattle.iobufs_frames.specs.declared.End.TheVariants.{Open}
use Rattle.iobufs_frames.specs.declared.lengths.Layout.{Layout}

-- a length that was decoded stays at the front whatever follows
pub seen_later : (layout : Layout) (bytes more : List ℕ) (n k : ℕ) → IsSeenIn layout bytes n k → IsSeenIn layout (bytes ++ more) n k
seen_later layout bytes more n k (at, long, within) = (
  length-later_in layout bytes more n at,
  long,
  omega (arith, seen_within layout bytes n k (at, long, within), length-append bytes more, length-drop layout.before (bytes ++ more)),
)

-- bytes that begin with others are these and the rest
pub grown : (old new : List ℕ) → take (length old) new ≡ old → new ≡ old ++ drop (length old) new
grown old new front = sym (take-append-drop (length old) new) ∙ ap (λ w. w ++ drop (length old) new) front

-- it stays where a read appends bytes, or fails
pub seen_read : {E : Type 0} (layout : Layout) (old new : Filled) (n k : ℕ) (P : List ℕ → Type 0) (Q : Type 0) (result : Result ℕ E)
    → IfOk result (λ count. (more : List ℕ) × (length more ≡ count) × (new.items ≡ old.items ++ more) × P more)
    → OnErr result ((new ≡ old) × Q)
    → IsSeenIn layout old.items n k → IsSeenIn layout new.items n k
seen_read layout old new n k P Q (Ok count) (more, long, grew, rest) failed seen =
    subst (λ (w : List ℕ). IsSeenIn layout w n k) (sym grew) (seen_later layout old.items more n k seen)
seen_read layout old new n k P Q (Err error) read (same, rest) seen = subst (λ (b : Filled). IsSeenIn layout b.items n k) (sym same) seen

-- fewer bytes are there than the frame has of a length that was decoded
pub seen_open : (layout : Layout) (range : RangeCfg) (bytes : List ℕ) (n k : ℕ) → IsSeenIn layout bytes n k
    → admits layout range n ≡ true
    → length bytes < layout.before + k + layout.after + (n - layout.counts) → LacksFrame layout range bytes Open
seen_open layout range bytes n k (at, long, within) inside few = inr (n, (at, inside), omega (arith, long, few))

-- the view that a body is taken as has its bytes
pub view_taken : (layout : Layout) (range : RangeCfg) (bytes left : List ℕ) (n h m : ℕ) (body : View)
    → IsSized layout range bytes n h m → body ≡ view_of_bytes (drop h (take (h + m) bytes)) → left ≡ drop (h + m) bytes
    → (frame : Parts) × IsAtFront layout range bytes left frame × (frame.body ≡ body.bytes)
view_taken layout range bytes left n h m body (at, inside, front, size, fits) made rest =
    let frame = parts_at layout bytes n in
    let number : n - layout.counts ≡ m = omega (arith, size) in
    let same : body.bytes ≡ frame.body =
    ap (λ (v : View). v.bytes) made ∙ view_of_bytes-bytes (drop h (take (h + m) bytes)) ∙ drop-take h m bytes
    ∙ (λ i. take (sym number i) (drop (front i) bytes)) in (
      frame,
      subst (λ (w : List ℕ). IsAtFront layout range bytes w frame) (sym rest)
          (frame_seen layout range bytes n h m (at, inside, front, size, fits)),
      sym same,
    )
