-- All items of an iterator, made into one value.
use Rattle.std.specs.Prelude.{◌≡◌, List, Option}
use Rattle.std.proofs.Common.{subst}
use Rattle.std.specs.Iterator.{DrainsIf, Yields}
use Rattle.std.specs.Iterator.Runs.{WholeRun, YieldsRun}

-- a run that went on to the end drains its iterator
pub drained : {S A B : Type 0} (steps : S → Option A → S → Type 0) (s : S) (W : Type 0) (Fits : List A → Type 0) (make : List A → B)
    (made : B)
    → WholeRun steps s (λ run. Fits run.items × (made ≡ make run.items)) → (xs : List A) × DrainsIf steps W s xs × (made ≡ make xs)
unfolding YieldsRun
drained steps s W Fits make made (run, from, whole, fits) =
    let gave = run.gave.0 in
    (run.items, (gave.0, subst (λ t. Yields steps t run.items gave.0) from gave.1, λ _. gave.2 whole), fits.1)
