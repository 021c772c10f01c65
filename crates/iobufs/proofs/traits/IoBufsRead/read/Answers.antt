use Rattle.std.proofs.Common.{ℕ, List, ◌≡◌, min, length, take, drop, ap, arith, length-take, ◌∙◌}
use Rattle.iobufs_core.specs.MarkedText.{MarkedText}
use Rattle.iobufs.proofs.TraitLaws.{text_drops}
use Rattle.iobufs_core.proofs.TraitLaws.{took_front}
use Rattle.iobufs.proofs.traits.IoBufsRead.read.Goals as goal

pub returns-clause-bytes : goal.returns-clause-bytes
returns-clause-bytes c =
    let n = c.min-n.result in
    let text = c.args.self.now in
    let dst : List ℕ = c.args.dst.now in
    let is : n ≡ min (length dst) (length text.bytes) = c.min-n.ensures ∙ ap (min (length dst)) c.len.ensures.value in
    let count : length (take n dst) ≡ n = omega (arith, length-take n dst, is) in
    took_front n text.bytes c.copy_to_slice.new.dst dst c.copy_to_slice.new.self.bytes is
    (c.copy_to_slice.ensures.bytes ∙ ap (λ k. take k text.bytes) count)
    (ap (λ (t : MarkedText). t.bytes) c.copy_to_slice.ensures.rest ∙ text_drops text (length (take n dst)) (omega (arith, count, is))
    ∙ ap (λ k. drop k text.bytes) count)
