-- How a count changes with its list.
use Rattle.iobufs_owner.proofs.Base.Known.{◌≡◌, ◌≢◌, ℕ, zero, suc, ◌+◌, ◌<◌, ◌≤◌, Bool, true, false, cond, List, [], ◌∷◌, ◌++◌, length, get_or, set, map, ap, refl, arith, Option, Some, World, Unfinished, Dropping, holds, holders, users, still_holds, drops, tally, reading, read_handle, read_call, State, Handle, Pending, Tables, eqb_tells, inl, inr, cases_Bool}

-- an element after a list adds one to the count where it passes, else nothing
pub count-append : {X : Type 0} (p : X → Bool) (xs : List X) (y : X) → tally p (xs ++ y ∷ []) ≡ tally p xs + cond (p y) 1 0
count-append p [] y = omega arith
count-append p (x ∷ xs) y = omega (arith, count-append p xs y)

-- with another element in a place the count loses one where the old one passes, and gains one where the new one does
pub count-set : {X : Type 0} (p : X → Bool) (xs : List X) (i : ℕ) (y d : X) → i < length xs
    → tally p (set xs i y) + cond (p (get_or xs i d)) 1 0 ≡ tally p xs + cond (p y) 1 0
count-set p [] i y d h = absurd (omega arith)
count-set p (x ∷ xs) zero y d h = omega arith
count-set p (x ∷ xs) (suc i) y d h = omega (arith, count-set p xs i y d (omega arith))

-- the count changes by whether the old element passes and the new one does
pub count-change : {X : Type 0} (p : X → Bool) (xs : List X) (i : ℕ) (y d : X) (a b : Bool) → i < length xs → p (get_or xs i d) ≡ a
    → p y ≡ b
    → tally p (set xs i y) + cond a 1 0 ≡ tally p xs + cond b 1 0
count-change p xs i y d a b l e f = rw (← e, ← f) (count-set p xs i y d l)

-- the count of a mapped list is that of the list, by the test of what is mapped
pub count-map : {X Y : Type 0} (p : Y → Bool) (f : X → Y) (xs : List X) → tally p (map f xs) ≡ tally (λ x. p (f x)) xs
count-map p f [] = refl
count-map p f (x ∷ xs) = omega (arith, count-map p f xs)

-- where the element at a place passes, the count is above 0
pub count-some : {X : Type 0} (p : X → Bool) (xs : List X) (i : ℕ) (d : X) → i < length xs → p (get_or xs i d) ≡ true → 0 < tally p xs
count-some p [] i d h e = absurd (omega arith)
count-some p (x ∷ xs) zero d h e = rw e (omega arith)
count-some p (x ∷ xs) (suc i) d h e = omega (arith, count-some p xs i d (omega arith) e)

-- no more elements pass than there are
pub count-few : {X : Type 0} (p : X → Bool) (xs : List X) → tally p xs ≤ length xs
count-few p [] = omega arith
count-few p (x ∷ xs) = grind (arith, count-few p xs)

-- where one test implies another, it passes at most as many
pub count-most : {X : Type 0} (p q : X → Bool) (xs : List X) → ((x : X) → q x ≡ true → p x ≡ true) → tally q xs ≤ tally p xs
count-most p q [] h = omega arith
count-most p q (x ∷ xs) h = grind (arith, h x, count-most p q xs h)

-- where one test implies another and the element at a place passes only the other, it passes fewer
pub count-less : {X : Type 0} (p q : X → Bool) (xs : List X) (i : ℕ) (d : X) → ((x : X) → q x ≡ true → p x ≡ true) → i < length xs
    → p (get_or xs i d) ≡ true → q (get_or xs i d) ≡ false → tally q xs < tally p xs
count-less p q [] i d h l t f = absurd (omega arith)
count-less p q (x ∷ xs) zero d h l t f = rw (t, f) (omega (arith, count-most p q xs h))
count-less p q (x ∷ xs) (suc i) d h l t f = grind (arith, h x, count-less p q xs i d h (omega arith) t f)

abbrev pub held_by : Tables → ℕ → Option Handle → Bool
held_by g b o = holds b (read_handle g o)

abbrev pub still_by : Tables → ℕ → Option Pending → Bool
still_by g b c = still_holds b (read_call g c)

abbrev pub drops_by : Tables → ℕ → Option Pending → Bool
drops_by g b c = drops b (read_call g c)

-- a block's holders are the handles and the calls of the tables that are read as holding it
pub holders-as : (s : State) (b : ℕ) → holders (reading s) b ≡ tally (held_by s.tables b) s.handles + tally (still_by s.tables b) s.calls
unfolding holders
holders-as s b = omega (arith, count-map (holds b) (read_handle s.tables) s.handles, count-map (still_holds b) (read_call s.tables) s.calls)

-- a block's users are the handles of the tables that are read as holding it and the calls that are read as drops of it
pub users-as : (s : State) (b : ℕ) → users (reading s) b ≡ tally (held_by s.tables b) s.handles + tally (drops_by s.tables b) s.calls
unfolding users
users-as s b = omega (arith, count-map (holds b) (read_handle s.tables) s.handles, count-map (drops b) (read_call s.tables) s.calls)

pub drops-more : (b : ℕ) (c : Option Unfinished) → still_holds b c ≡ true → drops b c ≡ true
drops-more b (Some (Dropping c true left)) e = absurd (cc)
drops-more b c e = e

-- a holder is a user
pub holders-le-users : (w : World) (b : ℕ) → holders w b ≤ users w b
unfolding holders users
holders-le-users w b = omega (arith, count-most (drops b) (still_holds b) w.calls (drops-more b))

-- two places that pass count two
pub count-two : {X : Type 0} (p : X → Bool) (xs : List X) (i j : ℕ) (d : X) → i ≢ j → i < length xs → j < length xs
    → p (get_or xs i d) ≡ true
    → p (get_or xs j d) ≡ true → 2 ≤ tally p xs
count-two p [] i j d n h l t u = absurd (omega arith)
count-two p (x ∷ xs) zero zero d n h l t u = absurd (n refl)
count-two p (x ∷ xs) zero (suc j) d n h l t u = rw t (omega (arith, count-some p xs j d (omega arith) u))
count-two p (x ∷ xs) (suc i) zero d n h l t u = rw u (omega (arith, count-some p xs i d (omega arith) t))
count-two p (x ∷ xs) (suc i) (suc j) d n h l t u = omega (arith, count-two p xs i j d (λ e. n (ap suc e)) (omega arith) (omega arith) t u)

-- a place that passes, where the count isn't 0
pub record Passing {X : Type 0} (p : X → Bool) (d : X) (xs : List X) : Type 0 where
  pub place : ℕ
  pub inside : place < length xs
  pub passes : p (get_or xs place d) ≡ true

-- where the count is above 0, there is a place whose element passes
pub count-find : {X : Type 0} (p : X → Bool) (d : X) (xs : List X) → 0 < tally p xs → Passing p d xs
count-find p d [] h = absurd (omega arith)
count-find p d (x ∷ xs) h = elim (cases_Bool (p x)) [
  | inl t ↦ record { place = 0; inside = omega arith; passes = t }
  | inr f ↦ (let e = rw f at h in
      let r = count-find p d xs (omega (arith, e)) in
      let l = r.inside in record { place = suc r.place; inside = omega arith; passes = r.passes })
]

-- where no element passes, the count is 0
pub count-none : {X : Type 0} (p : X → Bool) (d : X) (xs : List X) → ((i : ℕ) → i < length xs → p (get_or xs i d) ≡ true → ⊥)
    → tally p xs ≡ 0
count-none p d xs never = elim (eqb_tells (tally p xs) 0) [
  | inl i ↦ i.1
  | inr i ↦ absurd (let w = count-find p d xs (let n = i.1 in omega arith) in never w.place w.inside w.passes)
]

-- where each element passes one test as often as two others together, so does the whole list
pub count-sum : {X : Type 0} (p q r : X → Bool) (xs : List X) → ((x : X) → cond (p x) 1 0 ≡ cond (q x) 1 0 + cond (r x) 1 0)
    → tally p xs ≡ tally q xs + tally r xs
count-sum p q r [] h = omega arith
count-sum p q r (x ∷ xs) h = omega (arith, h x, count-sum p q r xs h)

-- no more than there are handles and calls
pub holders-few : (w : World) (b : ℕ) → holders w b ≤ length w.handles + length w.calls
unfolding holders
holders-few w b = omega (arith, count-few (holds b) w.handles, count-few (still_holds b) w.calls)
