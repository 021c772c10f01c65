-- A call ends with its fourth taken step at the latest.
use Rattle.iobufs_owner.proofs.Base.{CountsTaken, Dropping, EndsInFour, List, Loaded, More, None, Option, Pending, Refused, Reply, Runs, Sharing, Some, State, Step, Steps, Tables, Unfinished, World, ap, arith, call_at, eqb_tells, get_or, get_or-read, get_or-set_other, get_or-set_same, going_at, inl, inr, read_call, reading, refl, subst, sym, taken_after, taken_of, ◌≡◌, ◌≢◌, ℕ, ◌+◌, ◌-◌, ◌<◌, ◌≤◌, ◌∷◌}
use Rattle.iobufs_owner.proofs.WorldSteps.Walk.{left_of, IsLess, Changes, told}

-- a call that may take three steps more at most
abbrev pub IsShort : Option Unfinished → Type 0
IsShort None = Unit {0}
IsShort (Some c) = left_of c ≤ 3

-- n steps of an unfinished call, if there is one, are taken
pub record IsNear (o : Option Unfinished) (n : ℕ) : Type 0 where
  pub taken : n ≤ taken_of o
  pub few : n < 4
  pub short : IsShort o

taken-left : (c : Unfinished) → taken_of (Some c) ≡ 4 - left_of c
taken-left (Sharing h lo hi left) = refl
taken-left (Dropping b let_go left) = refl

after-less : (n : ℕ) (reply : Reply) → (reply ≡ More → ⊥) → taken_after n reply ≤ n
after-less n More f = absurd (f refl)
after-less n (Refused why) f = grind (arith)
after-less n reply f = omega arith

-- one step more, towards the end
one-more : (o : Option Unfinished) (c : Unfinished) (n : ℕ) → n ≤ taken_of o → IsShort o → IsLess o c
    → (n + 1 ≤ taken_of (Some c)) × (left_of c ≤ 3)
one-more None c n t s l = let e = taken-left c in (omega (arith, e, t, l), l)
one-more (Some d) c n t s l = let e = taken-left c in let f = taken-left d in (omega (arith, e, f, t, s, l), omega (arith, s, l))

-- its own step
own : (w next : World) (p n : ℕ) (reply : Reply) → IsNear (going_at w p) n → Changes w p (going_at w p) reply next
    → IsNear (going_at next p) (taken_after n reply)
own w next p n reply j (inl (e, f)) =
    let a = after-less n reply f in
    let t = j.taken in
    let m = j.few in
    rw e (record { taken = omega (arith, a, t); few = omega (arith, a, m); short = j.short })
own w next p n reply j (inr (inl g)) =
    let a : taken_after n reply ≡ n + 1 = ap (taken_after n) g.more in
    let b = one-more (going_at w p) g.call n j.taken j.short g.less in
    let f = taken-left g.call in
    let d = b.0 in
    let some = g.some in
    rw (g.calls, get_or-set_same w.calls p (Some g.call) None g.thread, a)
    (record { taken = d; few = omega (arith, d, f, some); short = b.1 })
own w next p n reply j (inr (inr g)) =
    rw (g.calls, get_or-set_same w.calls p None None g.thread, g.none n) (record { taken = omega arith; few = omega arith; short = tt })

-- that of another thread
others : (w next : World) (p q : ℕ) (c : Option Unfinished) (reply : Reply) → p ≢ q → Changes w q c reply next
    → going_at next p ≡ going_at w p
others w next p q c reply d (inl (e, f)) = ap (λ (cs : List (Option Unfinished)). get_or cs p None) e
others w next p q c reply d (inr (inl g)) = rw g.calls (get_or-set_other w.calls q p (Some g.call) None d)
others w next p q c reply d (inr (inr g)) = rw g.calls (get_or-set_other w.calls q p None None d)

-- where a run begins
near-call : (g : Tables) (c : Option Pending) → (taken_of (read_call g c) < 4) × IsShort (read_call g c)
near-call g None = (omega arith, tt)
near-call g (Some (Loaded k w)) = (omega arith, omega arith)
near-call g c = (omega arith, omega arith)

-- a thread's call in any machine has taken fewer than four steps and may take at most three more
near-from : (s : State) (p n : ℕ) → n ≤ taken_of (going_at (reading s) p) → IsNear (going_at (reading s) p) n
near-from s p n l =
    let e = get_or-read (read_call s.tables) s.calls p None in
    let f = near-call s.tables (call_at s p) in
    let few : taken_of (going_at (reading s) p) < 4 = rw e f.0 in
    record { taken = l; few = omega (arith, few, l); short = rw e f.1 }

pub near-start : (s : State) (p : ℕ) → IsNear (going_at (reading s) p) (taken_of (going_at (reading s) p))
near-start s p = near-from s p (taken_of (going_at (reading s) p)) (omega arith)

-- a step leaves its thread's call with fewer than four steps taken, and no more than the call that is unfinished then has taken at most
pub counts-taken : (s : State) (next : World) (step : Step) (reply : Reply) → Steps (reading s) step reply next
    → CountsTaken (reading s) step reply next
counts-taken s next step reply m = λ n l.
    let r = own (reading s) next step.thread n reply (near-from s step.thread n l) (told (reading s) next step reply m).0 in
    (r.few, r.taken)

-- in a run no call of a thread is unfinished after its fourth step, where the one that it has at first has taken n
pub ends-in-four : (s next : State) (p n : ℕ) (steps : List Step) (replies : List Reply) → Runs s steps replies next
    → IsNear (going_at (reading s) p) n → EndsInFour p n steps replies
ends-in-four s next p n (step ∷ steps) (reply ∷ replies) (mid, one, r) j =
    let c = (told (reading s) (reading mid) step reply one.steps).0 in
    elim (eqb_tells step.thread p) [
      | inl e ↦ (
          let f = own (reading s) (reading mid) p n reply j
          (subst (λ (q : ℕ). Changes (reading s) q (going_at (reading s) q) reply (reading mid)) e.1 c) in
          rw e.0 (f.few, ends-in-four mid next p (taken_after n reply) steps replies r f)
          )
      | inr e ↦ rw e.0 (ends-in-four mid next p n steps replies r (subst (λ (o : Option Unfinished). IsNear o n)
          (sym (others (reading s) (reading mid) p step.thread (going_at (reading s) step.thread) reply (λ z. e.1 (sym z)) c)) j))
    ]
ends-in-four s next p n steps replies r j = tt
