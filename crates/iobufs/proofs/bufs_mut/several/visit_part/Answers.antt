use Rattle.std.proofs.Common.{ap, arith, length, List, refl, subst, ℕ}
use Rattle.std.specs.Fn.{CalledAtMut}
use Rattle.iobufs.proofs.Text.{nat_tests}
use Rattle.iobufs.proofs.Parts.{called-mut, visited-one}
use Rattle.iobufs.proofs.bufs_mut.several.visit_part.Goals as goal

pub returns-then-not-is_empty-clause-visited : goal.returns-then-not-is_empty-clause-visited
returns-then-not-is_empty-clause-visited g c =
    let call : g.row.F.Denot → List ℕ → g.row.F.Denot → List ℕ → Type 0 = λ f x h y. CalledAtMut g.F.FnMut f x tt h y in
    let made = c.visit.new.arg2 in
    visited-one call c.args.visit c.visit.new.self c.args.part.now _ made (grind (arith, nat_tests, c.if-not-is_empty.ensures))
    (omega (arith, c.visit.auto.arg2, ap length c.as_mut.ensures.value))
    (subst (λ (x : List ℕ). call c.args.visit x c.visit.new.self made) c.as_mut.ensures.value (called-mut g.F.FnMut c.visit.ensures))
    refl
