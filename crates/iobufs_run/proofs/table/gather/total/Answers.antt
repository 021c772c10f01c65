use Rattle.std.proofs.Common.{ℕ, arith, ap, ◌∙◌, take_all}
use Rattle.std.specs.Prelude.{sum_by}
use Rattle.std.proofs.lemmas.List.Sums.{sum_by_more_le}
use Rattle.iobufs_run.specs.Slots.{slot_named, extent}
use Rattle.iobufs_run.proofs.table.gather.total.Goals as goal

pub returns-in_err-sum : goal.returns-in_err-sum
returns-in_err-sum c =
    let f = λ (name : ℕ). extent (slot_named c.args.slots.now name) in
    let names = c.args.names.now in
    let more = sum_by_more_le f names c.loop-name.name-index 0 c.loop-name-test.true in
    rw c.from_residual.ensures (λ fits. c.in_err-sum.ensures (omega (arith, more, c.loop-name.invariant.sum, c.extent_at.ensures, fits)))

pub returns : goal.returns
returns c =
    let f = λ (name : ℕ). extent (slot_named c.args.slots.now name) in
    let sum = c.loop-name.invariant.sum ∙ ap (sum_by f) (take_all c.loop-name.name-index c.args.names.now c.loop-name-test.false) in
    let small = c.loop-name.invariant.small in
    (omega (arith, sum), sum)
