use Rattle.iobufs.proofs.Text.{IfSome, Option, Some, ap, arith, in_order, length, parts_drained, parts_filled, subst, take, ◌∙◌, ◌≡◌}
use Rattle.iobufs.proofs.Parts.{front-filled, front-fits, front-taken, kept-drained-row, spare-summed}
use Rattle.iobufs.proofs.bufs_mut.several.Several.take_front.Goals as goal

of_some : {A : Type 0} (P : A → Type 0) (o : Option A) (x : A) → o ≡ Some x → IfSome o P → P x
of_some P o x is p = subst (λ o. IfSome o P) is p

pub overflow_sub-self : goal.overflow_sub-self
overflow_sub-self c =
    let s = c.self.inside in
    let (row, len, more) = of_some _ _ _ c.in-Some.is c.in_ok-bytes.ensures.first in
    omega (arith, front-fits s.row.items _ s.used c.args.n _ c.self.invariant.behind row len, c.self.invariant.sums.len_is)

pub overflow_sub-self-2 : goal.overflow_sub-self-2
overflow_sub-self-2 c =
    let s = c.self.inside in
    let sums = c.self.invariant.sums in
    let (row, len, more) = of_some _ _ _ c.in-Some.is c.in_ok-bytes.ensures.first in
    omega (
      arith,
      front-fits s.row.items _ s.used c.args.n _ c.self.invariant.behind row len,
      sums.len_is,
      spare-summed (in_order s.row.items s.used) s.len s.capacity sums,
    )

pub invariant_of-self-2 : goal.invariant_of-self-2
invariant_of-self-2 c =
    let s = c.self.inside in
    let kept = c.self.invariant in
    let (row, len, more) = of_some _ _ _ c.in-Some.is c.in_ok-bytes.ensures.first in
    let left = front-taken s.row.items _ s.used c.args.n _ kept.behind kept.parts c.requires row len more in
    kept-drained-row s.row.items _ s.used s.used c.args.n s.full _ s.len s.capacity kept
    (front-fits s.row.items _ s.used c.args.n _ kept.behind row len) left.0 left.1
    (omega (arith, ap length row, c.saturating_sub-self-inside.ensures))

pub returns-clause-front : goal.returns-clause-front
returns-clause-front c =
    let s = c.self.inside in
    let kept = c.self.invariant in
    let (row, len, more) = of_some _ _ _ c.in-Some.is c.in_ok-bytes.ensures.first in (
      front-filled s.row.items _ s.used c.args.n _ kept.behind row len ∙ ap (λ ps. take c.args.n (parts_filled ps)) c.self.view_is,
      (front-taken s.row.items _ s.used c.args.n _ kept.behind kept.parts c.requires row len more).0
          ∙ ap (λ ps. parts_drained ps c.args.n) c.self.view_is,
    )
