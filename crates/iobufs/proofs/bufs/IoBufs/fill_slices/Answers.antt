use Rattle.std.proofs.Common.{◌≡◌, ◌∙◌, ℕ, ◌+◌, ◌≤◌, ◌<◌, List, [], ◌∷◌, ◌++◌, None, Some, ap, arith, length, length-set, inl, inr, map, set, slice_get, sym, take}
use Rattle.std.proofs.lemmas.List.{map-append, take_all, take_more, take_more_set}
use Rattle.std.proofs.lemmas.Option.{get_or_from_slice_get, none-some, slice_get_cases, slice_get_within}
use Rattle.std.specs.Io.Slices.{io_slice_bytes}
use Rattle.iobufs_core.specs.MarkedText.{text_chunks}
use Rattle.iobufs.proofs.bufs.IoBufs.fill_slices.Goals as goal

-- one chunk more is in its place
filled_more : {A B : Type 0} (f : A → B) (slices : List A) (chunks : List B) (i : ℕ) (slice : A) (chunk : B) → i < length slices
    → slice_get chunks i ≡ Some chunk → f slice ≡ chunk → map f (take i slices) ≡ take i chunks
    → map f (take (i + 1) (set slices i slice)) ≡ take (i + 1) chunks
filled_more f slices chunks i slice chunk fits got is before =
    ap (map f) (take_more_set slices i slice fits) ∙ map-append f (take i slices) (slice ∷ [])
    ∙ (λ k. before k ++ (is ∙ sym (get_or_from_slice_get chunks i chunk chunk got)) k ∷ [])
    ∙ sym (take_more chunks i chunk (slice_get_within chunks i chunk got))

-- no chunk is left
filled_all : {B : Type 0} (chunks : List B) (i most : ℕ) → slice_get chunks i ≡ None → i ≤ most → take i chunks ≡ take most chunks
filled_all chunks i most none within =
    elim (slice_get_cases chunks i).1 [
      | inl at ↦ absurd (none-some at.0 (sym none ∙ at.2))
      | inr past ↦ take_all i chunks past.0 ∙ sym (take_all most chunks (omega (arith, past.0, within)))
    ]

pub loop-count-preserved : goal.loop-count-preserved
loop-count-preserved c = record {
  room = length-set c.loop-count.dst c.loop-count.count c.new.result ∙ c.loop-count.invariant.room;
  within = omega (arith, c.loop-count-test.true, length-set c.loop-count.dst c.loop-count.count c.new.result);
  chunks = filled_more io_slice_bytes c.loop-count.dst (text_chunks c.args.self.now) c.loop-count.count c.new.result c.in-Some.chunk.now
      c.loop-count-test.true (sym c.in-Some.ensures) c.new.ensures c.loop-count.invariant.chunks;
}

pub returns-in_default-clause-chunks : goal.returns-in_default-clause-chunks
returns-in_default-clause-chunks c =
    c.loop-count.invariant.chunks
    ∙ filled_all (text_chunks c.args.self.now) c.loop-count.count (length c.args.dst.now) (sym c.in_default.ensures)
    (omega (arith, c.loop-count.invariant.within, c.loop-count.invariant.room))
