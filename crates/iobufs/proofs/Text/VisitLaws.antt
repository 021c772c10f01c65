-- Calls of a closure on elements in order.
use Rattle.iobufs.proofs.Text.Known.{FoldsTo, List, [], refl, subst, sym, ◌++◌, ◌∷◌}

-- calls on some elements, and then on others
pub folds-append : {P A : Type 0} (R : P → A → P → Type 0) (p : P) (xs : List A) (q : P) (ys : List A) (u : P) → FoldsTo R p xs q
    → FoldsTo R q ys u
    → FoldsTo R p (xs ++ ys) u
folds-append R p [] q ys u e on = subst (λ k. FoldsTo R k ys u) (sym e) on
folds-append R p (x ∷ xs) q ys u (mid, called, others) on = (mid, called, folds-append R mid xs q ys u others on)

-- one call more
pub folds-on : {P A : Type 0} (R : P → A → P → Type 0) (p : P) (xs : List A) (q : P) (x : A) (u : P) → FoldsTo R p xs q → R q x u
    → FoldsTo R p (xs ++ x ∷ []) u
folds-on R p xs q x u h called = folds-append R p xs q (x ∷ []) u h (u, called, refl)
