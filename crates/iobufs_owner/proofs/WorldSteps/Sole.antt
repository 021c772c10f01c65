-- The answer of `IsUnique` is exact.
use Rattle.iobufs_owner.proofs.Base.{◌≡◌, ◌≢◌, inl, inr, ℕ, ◌<◌, ◌≤◌, zero, suc, Bool, true, false, nat_eq, List, [], ◌∷◌, length, get_or, set, Option, Some, None, sym, ◌∙◌, subst, refl, arith, eqb_tells, get_or-set_same, get_or-set_other, IsUnique, Act, Begin, Step, Reply, Unique, World, LiveHandle, Unfinished, held_at, going_at, holders, holds, still_holds, tally, Begins, ActsAt, Steps, TellsUnique, count-set, count-some, count-two, eq-eqb, eqb-true, false_from_ne_true, Refusal, ap, count-none, MatchOption, Refused, cause_of, refused_at}

-- ---- counts

-- an index at which an element passes is inside the list, if `None` doesn't pass
inside : {X : Type 0} (p : Option X → Bool) (xs : List (Option X)) (i : ℕ) → p None ≡ false → p (get_or xs i None) ≡ true → i < length xs
inside p [] i n t = absurd (cc)
inside p (x ∷ xs) zero n t = omega arith
inside p (x ∷ xs) (suc i) n t = let l = inside p xs i n t in omega (arith, l)

-- where one counts and another place passes, the other doesn't
others-fail : {X : Type 0} (p : Option X → Bool) (xs : List (Option X)) (h k : ℕ) → p None ≡ false → p (get_or xs h None) ≡ true
    → tally p xs ≤ 1
    → k ≢ h → p (get_or xs k None) ≡ false
others-fail p xs h k n t few d =
    false_from_ne_true (p (get_or xs k None)) (λ u. omega
    (arith, few, count-two p xs k h None d (inside p xs k n u) (inside p xs h n t) u t))

none-pass : {X : Type 0} (p : Option X → Bool) (xs : List (Option X)) (k : ℕ) → p None ≡ false → tally p xs ≡ 0
    → p (get_or xs k None) ≡ false
none-pass p xs k n z = false_from_ne_true (p (get_or xs k None))
    (λ u. (let one = count-some p xs k None (inside p xs k n u) u in omega (arith, one, z)))

none-counted : {X : Type 0} (p : Option X → Bool) (xs : List (Option X)) → ((k : ℕ) → p (get_or xs k None) ≡ false) → tally p xs ≡ 0
none-counted p xs f = count-none p None xs (λ i l t. let z = sym (f i) ∙ t in cc)

one-counted : {X : Type 0} (p : Option X → Bool) (xs : List (Option X)) (h : ℕ) → p None ≡ false → p (get_or xs h None) ≡ true
    → ((k : ℕ) → k ≢ h → p (get_or xs k None) ≡ false) → tally p xs ≡ 1
one-counted p xs h n t f =
    let l = inside p xs h n t in
    let z = none-counted p (set xs h None) (λ k. elim (eqb_tells k h) [
      | inl e ↦ rw (e.1, get_or-set_same xs h None None l) n
      | inr e ↦ rw (get_or-set_other xs h k None None e.1) (f k e.1)
    ]) in
    let c = rw (n, t, z) at (count-set p xs h None None l) in
    omega (arith, c)

-- ---- the answer

unique-begun : (w next : World) (p h b : ℕ) (memory v : Bool) (x : LiveHandle) (reply : Reply) → Begins w p (IsUnique h) memory reply next
    → held_at w h ≡ Some x → x.block ≡ Some b → reply ≡ Unique v → v ≡ nat_eq (holders w b) 1
unfolding Begins
unique-begun w next p h b memory v x reply (y, at', (c, own, e, g)) at f q =
    let yx : y ≡ x = (let z = sym at' ∙ at in cc) in
    let i : Some b ≡ Some c = sym f ∙ ap (λ (x : LiveHandle). x.block) (sym yx) ∙ own in
    let n : b ≡ c = cc in
    let z : Unique (nat_eq (holders w c) 1) ≡ Unique v = sym e ∙ q in
    rw n (cc)

unique-acts : (w next : World) (p h b : ℕ) (memory v : Bool) (x : LiveHandle) (o : Option Unfinished) (reply : Reply)
    → ActsAt w p (Begin (IsUnique h) memory) o reply next → held_at w h ≡ Some x → x.block ≡ Some b → reply ≡ Unique v
    → v ≡ nat_eq (holders w b) 1
unique-acts w next p h b memory v x None reply m at block q = unique-begun w next p h b memory v x reply m at block q
unique-acts w next p h b memory v x (Some c) reply m at block q = absurd m

unique-by : (w next : World) (step : Step) (h b : ℕ) (memory v : Bool) (o : Option Refusal) (x : LiveHandle) (reply : Reply)
    → MatchOption o (ActsAt w step.thread step.act (going_at w step.thread) reply next)
    (λ why. (reply ≡ Refused why) × (next ≡ refused_at w step.thread step.act (going_at w step.thread)))
    → step.act ≡ Begin (IsUnique h) memory → held_at w h ≡ Some x → x.block ≡ Some b → reply ≡ Unique v → v ≡ nat_eq (holders w b) 1
unique-by w next step h b memory v None x reply m act at block q =
    unique-acts w next step.thread h b memory v x (going_at w step.thread) reply
    (subst (λ (a : Act). ActsAt w step.thread a (going_at w step.thread) reply next) act m) at block q
unique-by w next step h b memory v (Some why) x reply m act at block q = absurd (let z = sym m.0 ∙ q in cc)

-- a step of the world answers that a handle is unique exactly where no other handle and no unfinished drop holds its block
pub tells-unique : (w next : World) (step : Step) (reply : Reply) → Steps w step reply next → TellsUnique w step reply
unfolding holders
tells-unique w next step reply m = λ h b memory v x act q at block.
    let e = unique-by w next step h b memory v (cause_of w step) x reply m act at block q in
    let t : holds b (held_at w h) ≡ true = rw (at, block) (eq-eqb b b refl) in (
      λ y.
          let one = eqb-true (holders w b) 1 (sym e ∙ y) in
          let some = count-some (holds b) w.handles h None (inside (holds b) w.handles h refl t) t in
          record {
            handles = λ k d. others-fail (holds b) w.handles h k refl t (omega (arith, one, some)) d;
            drops = λ p. none-pass (still_holds b) w.calls p refl (omega (arith, one, some));
          },
      λ s. e ∙ eq-eqb (holders w b) 1 (omega (
        arith,
        one-counted (holds b) w.handles h refl t s.handles,
        none-counted (still_holds b) w.calls s.drops,
      )),
    )
