-- The chunks of a body.
use Rattle.std.proofs.Common.{◌≡◌, ℕ, ◌<◌, ◌≤◌, List, ◌++◌, Result, Ok, Err, IfOk, OnOk, OnErr, IfErr, Some, length, take, drop, ap, sym, ◌∙◌, arith, length-take, take-append-drop}
use Rattle.iobufs_core.specs.MarkedText.{MarkedText, text_rest}
use Rattle.iobufs_core.specs.ReadBytes.{bytes-rest}
use Rattle.iobufs_core.specs.declared.codec.base.BufError.{BufError}
use Rattle.iobufs_core.specs.declared.codec.base.BufError.TheVariants.{Memory}
use Rattle.iobufs_examples.specs.Web.{TakesChunk}

-- bytes were copied out of the front, or the allocation failed
pub chunk_taken : (old new : MarkedText) (n : ℕ) (result : Result (List ℕ) BufError) → n ≤ length old.bytes → 0 < n
    → IfOk result (λ bytes. bytes ≡ take n old.bytes) → OnOk result (new ≡ text_rest old n) → OnErr result (new ≡ old)
    → IfErr result (λ cause. cause ≡ Memory)
    → TakesChunk old.bytes (Some result) new.bytes
chunk_taken old new n (Ok bytes) fits some is rest same memory = (
  omega (arith, ap length is, length-take n old.bytes, fits, some),
  sym (take-append-drop n old.bytes) ∙ ap (λ w. w ++ drop n old.bytes) (sym is)
      ∙ ap (λ w. bytes ++ w) (sym (ap (λ (t : MarkedText). t.bytes) rest ∙ bytes-rest old n fits)),
)
chunk_taken old new n (Err cause) fits some is rest same memory = (memory, ap (λ (t : MarkedText). t.bytes) same)
