-- The calls that borrow a handle, by their number.
use Rattle.iobufs_owner.proofs.Base.{◌≡◌, ◌≤◌, ◌∙◌, ℕ, zero, suc, not, nat_eq, replicate, set, is_lent, count-change, ◌+◌, ◌^◌, ◌<◌, Bool, cond, List, [], ◌∷◌, length, get_or, nat_lt, nat_tests, tally, count-some, count-few, eq-eqb, arith, sym, ap, refl, Option, None, Some, Pending, Loaded, Ready, Add, borrows_it}
use Rattle.std.specs.List.{list_any}
use Rattle.std.specs.Prelude.{IfSome}
use Rattle.iobufs_owner.specs.Lending.{handle_of, lends}

-- a call borrows the handle that it has
pub borrows-handle : (h : ℕ) (c : Option Pending) → borrows_it h c ≡ lends h (handle_of c)
borrows-handle h None = refl
borrows-handle h (Some (Loaded k w)) = refl
borrows-handle h (Some (Ready k w r)) = refl
borrows-handle h (Some (Add k r)) = refl
borrows-handle h c = refl

-- an element passes exactly where the count isn't 0
pub any-counted : {X : Type 0} (p : X → Bool) (xs : List X) → list_any p xs ≡ nat_lt 0 (tally p xs)
any-counted p [] = refl
any-counted p (x ∷ xs) = grind (arith, nat_tests, any-counted p xs)

-- each handle's count is that of the calls that borrow it
abbrev pub AreCounted : List ℕ → List (Option Pending) → Type 0
AreCounted bs cs = (h : ℕ) → get_or bs h 0 ≡ tally (borrows_it h) cs

-- a handle is borrowed exactly if its count isn't 0
pub lent-counted : (bs : List ℕ) (cs : List (Option Pending)) (h n : ℕ) → AreCounted bs cs → n ≡ get_or bs h 0
    → not (nat_eq n 0) ≡ is_lent h cs
lent-counted bs cs h n k e = rw (any-counted (borrows_it h) cs, ← k h, ← e) (grind (arith, nat_tests))

-- no call, no borrower
pub none-counted : (n h : ℕ) → tally (borrows_it h) (replicate n None) ≡ 0
none-counted zero h = refl
none-counted (suc n) h = omega (arith, none-counted n h)

-- the handle of a call has a borrower
pub counts-handle : (bs : List ℕ) (cs : List (Option Pending)) (p : ℕ) (c d : Option Pending) → AreCounted bs cs → p < length cs
    → c ≡ get_or cs p d
    → IfSome (handle_of c) (λ h. 0 < get_or bs h 0)
counts-handle bs cs p c d n l e =
    let by : (o : Option ℕ) → handle_of c ≡ o → IfSome o (λ h. 0 < get_or bs h 0) =
    λ o. elim o as (λ o. handle_of c ≡ o → IfSome o (λ h. 0 < get_or bs h 0)) [
      | None ↦ λ _. tt
      | Some h ↦ λ o. rw (n h)
          (count-some (borrows_it h) cs p d l (ap (borrows_it h) (sym e) ∙ borrows-handle h c ∙ ap (lends h) o ∙ eq-eqb h h refl))
    ] in
    by (handle_of c) refl

-- a handle may have a borrower more than are counted but one
pub fits-handle : (bs us : List ℕ) (cs : List (Option Pending)) (o : Option ℕ) → AreCounted bs cs
    → ((k : ℕ) → get_or us k 0 ≤ get_or bs k 0)
    → length cs + 1 < 2 ^ 64 → IfSome o (λ h. get_or us h 0 + 1 < 2 ^ 64)
fits-handle bs us cs None n l f = tt
fits-handle bs us cs (Some h) n l f = omega (arith, n h, l h, count-few (borrows_it h) cs)

-- after another call of the thread the counts are those of the calls
pub counts-set : (bs us vs : List ℕ) (cs : List (Option Pending)) (p : ℕ) (c d old : Option Pending) → AreCounted bs cs → p < length cs
    → old ≡ get_or cs p d
    → ((k : ℕ) → get_or us k 0 + cond (lends k (handle_of old)) 1 0 ≡ get_or bs k 0)
    → ((k : ℕ) → get_or vs k 0 ≡ get_or us k 0 + cond (lends k (handle_of c)) 1 0) → AreCounted vs (set cs p c)
counts-set bs us vs cs p c d old n l e u v h =
    let a = count-change (borrows_it h) cs p c d _ _ l (ap (borrows_it h) (sym e) ∙ borrows-handle h old) (borrows-handle h c) in
    omega (arith, a, n h, u h, v h)
