-- The effect of an abstract step on the calls, and the cause of its refusal, if any: one walk over all steps.
use Rattle.iobufs_owner.proofs.Base.{Act, ActsAt, ltb-false, set, nat_eq, Advance, Begin, Begins, Block, Bool, Call, Ceiling, Clone, Demote, Done, Drop, Dropping, External, Freeze, Go, Goes, GoesOn, GoesOnWithin, LiveHandle, Idle, IsBeside, IsCaused, IsUnique, List, MatchBool, MatchOption, Memory, More, New, None, Option, Put, Refusal, Refused, Reply, SharesOn, Sharing, Slice, Some, SplitTo, Static, Step, Steps, TryIntoMut, Unfinished, World, ap, arith, cause_at, cause_gone, cause_of, cond, false, going_at, held_at, holders, inl, inr, length, ltb-true, may_take, nat_lt, refl, subst, sym, taken_after, true, ◌≡◌, ◌≢◌, ◌⊎◌, ℕ, ◌<◌, ◌≤◌, ◌∙◌, refused_at, get_or_past}
use Rattle.iobufs_owner.specs.Steps as world

-- how many steps more a call may take
abbrev pub left_of : Unfinished → ℕ
left_of (Sharing h lo hi left) = left
left_of (Dropping b let_go left) = left

-- a call that begins, or that is nearer to its end
abbrev pub IsLess : Option Unfinished → Unfinished → Type 0
IsLess None c = left_of c ≤ 3
IsLess (Some d) c = left_of c < left_of d

-- the call of thread p goes on, nearer to its end
pub record GoesNearer (w : World) (p : ℕ) (o : Option Unfinished) (reply : Reply) (next : World) : Type 0 where
  pub thread : p < length w.calls
  pub call : Unfinished
  pub calls : next.calls ≡ set w.calls p (Some call)
  pub more : reply ≡ More
  pub some : 0 < left_of call
  pub less : IsLess o call

-- the call of thread p has ended
pub record HasEnded (w : World) (p : ℕ) (reply : Reply) (next : World) : Type 0 where
  pub thread : p < length w.calls
  pub calls : next.calls ≡ set w.calls p None
  pub none : (n : ℕ) → taken_after n reply ≡ 0

-- a step of thread p, whose call is o, leaves all calls; or p's call begins, goes on nearer to its end, or ends
abbrev pub Changes : World → ℕ → Option Unfinished → Reply → World → Type 0
Changes w p o reply next = ((next.calls ≡ w.calls) × (reply ≢ More)) ⊎ GoesNearer w p o reply next ⊎ HasEnded w p reply next

-- an effect of a step of thread p, whose call is o: a refusal is for denied memory or a full table alone
record IsTold (w : World) (p : ℕ) (o : Option Unfinished) (memory : Bool) (reply : Reply) (next : World) : Type 0 where
  calls : Changes w p o reply next
  beside : (why : Refusal) → reply ≡ Refused why → IsBeside memory why

-- ---- replies

-- a reply that refuses nothing and ends a call, or is the whole of one
abbrev is_plain : Reply → Bool
is_plain More = false
is_plain (Refused why) = false
is_plain reply = true

choose : (P Q R : Type 0) (v : Bool) → MatchBool v P Q → (P → R) → (Q → R) → R
choose P Q R true m f g = f m
choose P Q R false m f g = g m

kept : {w next : World} {p : ℕ} {o : Option Unfinished} {why : Refusal} {reply : Reply} → world.Refuses w why reply next
    → Changes w p o reply next
kept (e, f) = inl (ap (λ (w : World). w.calls) f, λ z. (let q = sym e ∙ z in absurd (cc)))

-- denied memory, or a full table
beside : {w next : World} {p : ℕ} {o : Option Unfinished} {memory : Bool} {why : Refusal} {reply : Reply} → world.Refuses w why reply next
    → IsBeside memory why → IsTold w p o memory reply next
beside {memory} {why} r b =
    record { calls = kept r; beside = λ y f. (let q : why ≡ y = (let z = sym r.0 ∙ f in cc) in subst (IsBeside memory) q b) }

-- the calls stay
stays : {w u next : World} {p : ℕ} {o : Option Unfinished} {memory : Bool} {answer reply : Reply} → (reply ≡ answer) × (next ≡ u)
    → u.calls ≡ w.calls
    → is_plain answer ≡ true → IsTold w p o memory reply next
stays (e, f) c plain = record {
  calls = inl (ap (λ (w : World). w.calls) f ∙ c, λ z. absurd (let q = sym plain ∙ ap is_plain (sym e ∙ z) in cc));
  beside = λ why z. absurd (let q = sym plain ∙ ap is_plain (sym e ∙ z) in cc);
}

room-or : {w next : World} {p : ℕ} {o : Option Unfinished} {memory : Bool} {reply : Reply} (u : World) (x : LiveHandle)
    → (world.NoRoom w reply next ⊎ world.Makes u x reply next) → u.calls ≡ w.calls → IsTold w p o memory reply next
room-or u x (inl r) c = beside r (inr refl)
room-or u x (inr m) c = stays m c refl

-- ---- calls that end with their first step

new-told : {w next : World} {p : ℕ} (b : Block) (x : LiveHandle) (memory : Bool) (reply : Reply) → world.NewIs w b x memory reply next
    → IsTold w p None memory reply next
new-told {w} b x true reply r = room-or (world.block_more w b) x r refl
new-told b x false reply r = beside r (inl (refl, refl))

free-calls : (w : World) (o : Option ℕ) → (world.free_of w o).calls ≡ w.calls
free-calls w None = refl
free-calls w (Some b) = refl

-- ---- calls of several steps

goes-on : {w next : World} {p : ℕ} {o : Option Unfinished} {memory : Bool} {reply : Reply} (u : World) (c : Unfinished) → p < length w.calls
    → GoesOn u p c reply next → u.calls ≡ w.calls → 0 < left_of c → IsLess o c → IsTold w p o memory reply next
goes-on {p} u c l (m, f) e some less = record {
  calls = inr (inl (record {
    thread = l;
    call = c;
    calls = ap (λ (w : World). w.calls) f ∙ ap (λ (cs : List (Option Unfinished)). set cs p (Some c)) e;
    more = m;
    some = some;
    less = less;
  }));
  beside = λ why z. absurd (let q = sym m ∙ z in cc);
}

-- a step that ends the call
ended : {w u next : World} {p : ℕ} {o : Option Unfinished} {answer reply : Reply} → p < length w.calls → (reply ≡ answer) × (next ≡ u)
    → u.calls ≡ set w.calls p None → ((n : ℕ) → taken_after n answer ≡ 0) → Changes w p o reply next
ended l (e, f) c z = inr (inr (record { thread = l; calls = ap (λ (w : World). w.calls) f ∙ c; none = λ n. ap (taken_after n) e ∙ z n }))

ends : {w u next : World} {p : ℕ} {o : Option Unfinished} {memory : Bool} {answer reply : Reply} → p < length w.calls
    → (reply ≡ answer) × (next ≡ u) → u.calls ≡ set w.calls p None → ((n : ℕ) → taken_after n answer ≡ 0) → is_plain answer ≡ true
    → IsTold w p o memory reply next
ends l m c z plain = record { calls = ended l m c z; beside = λ why f. absurd (let q = sym plain ∙ ap is_plain (sym m.0 ∙ f) in cc) }

share-told : {w next : World} {p : ℕ} {memory : Bool} {reply : Reply} (h lo hi : ℕ) (x : LiveHandle) (o : Option ℕ) → p < length w.calls
    → MatchOption o (world.NoRoom w reply next ⊎ world.Makes w (world.part_of x lo hi) reply next)
    (λ _. GoesOnWithin w p (Sharing h lo hi) 3 reply next) → IsTold w p None memory reply next
share-told {w} h lo hi x None l r = room-or w (world.part_of x lo hi) r refl
share-told {w} h lo hi x (Some b) l g = goes-on w (Sharing h lo hi g.left) l g.goes refl g.some g.few

drop-told : {w next : World} {p : ℕ} {memory : Bool} {reply : Reply} (h : ℕ) (o : Option ℕ) → p < length w.calls
    → MatchOption o ((reply ≡ Done) × (next ≡ world.held_gone w h))
    (λ b. ((holders w b ≡ 1) × (reply ≡ Done) × (next ≡ world.free_in (world.held_gone w h) b))
    ⊎ GoesOnWithin (world.held_gone w h) p (Dropping b false) 2 reply next) → IsTold w p None memory reply next
drop-told h None l r = stays r refl refl
drop-told h (Some b) l (inl (one, e, f)) = stays (e, f) refl refl
drop-told {w} h (Some b) l (inr g) = let few = g.few in goes-on (world.held_gone w h) (Dropping b false g.left) l g.goes refl g.some
    (omega (arith, few))

begun-told : {w next : World} {p : ℕ} {reply : Reply} (call : Call) (memory : Bool) → p < length w.calls → Begins w p call memory reply next
    → IsTold w p None memory reply next
unfolding Begins
begun-told (New base size align) memory l r = new-told _ _ memory _ r
begun-told (External base size) memory l r = new-told _ _ memory _ r
begun-told {w} (Static len) memory l r = room-or w (world.detached len) r refl
begun-told (Put h n) memory l (x, at, m) = stays m refl refl
begun-told (Advance h n) memory l (x, at, m) = stays m refl refl
begun-told {w} (Freeze h) memory l (x, at, m) = choose _ _ _ (nat_eq x.len 0) m (λ r. stays r (free-calls w x.block) refl) (λ r. elim r [
  | inl a ↦ beside a.refuses (inl (refl, a.denied))
  | inr b ↦ elim b [ inl a ↦ beside a.no_room (inr refl) | inr a ↦ stays a refl refl ]
])
begun-told (TryIntoMut h) memory l (x, at, r) = elim r [ inl a ↦ stays (a.1, a.2) refl refl | inr a ↦ stays a.1 refl refl ]
begun-told {w} (SplitTo h at) memory l (x, is, m) =
    choose _ _ _ (nat_eq at 0) m (λ r. room-or w (world.detached 0) r refl)
    (λ m. choose _ _ _ (nat_eq at x.len) m (λ r. room-or (world.held_set w h (world.detached 0)) x r refl) (λ m. elim m [
      | inl b ↦ beside b.refuses (inl (refl, b.denied))
      | inr b ↦ room-or (world.held_set w h (world.part_of x at x.len)) (world.part_of x 0 at) b refl
    ]))
begun-told (IsUnique h) memory l (x, at, (b, own, e, f)) = stays (e, f) refl refl
begun-told (Demote h) memory l (x, at, r) = elim r [ inl a ↦ stays (a.1, a.2) refl refl | inr a ↦ stays a refl refl ]
begun-told (Clone h) memory l (x, at, r) = share-told h 0 x.len x x.block l r
begun-told {w} (Slice h lo hi) memory l (x, at, m) =
    choose _ _ _ (nat_eq lo hi) m (λ r. room-or w (world.detached 0) r refl) (λ r. share-told h lo hi x x.block l r)
begun-told (Drop h) memory l (x, at, r) = drop-told h x.block l r

shares : {w next : World} {p : ℕ} {reply : Reply} (h lo hi left : ℕ) (memory : Bool) (o : Option LiveHandle) → p < length w.calls
    → SharesOn w p h lo hi left memory o reply next → IsTold w p (Some (Sharing h lo hi left)) memory reply next
shares h lo hi left memory None l r = absurd r
shares h lo hi left memory (Some x) l (inl (three, m, e, f)) = record {
  calls = ended l (e, f) refl (λ n. refl);
  beside = λ why z. (let q : Memory ≡ why = (let y = sym e ∙ z in cc) in subst (IsBeside memory) q (inl (refl, m)));
}
shares {w} h lo hi left memory (Some x) l (inr (inl (fewer, some, few, g))) = goes-on w (Sharing h lo hi fewer) l g refl some few
shares h lo hi left memory (Some x) l (inr (inr (inl (three, m, r)))) = beside r (inr refl)
shares h lo hi left memory (Some x) l (inr (inr (inr (never, few, inl r)))) = beside r (inr refl)
shares h lo hi left memory (Some x) l (inr (inr (inr (never, few, inr m)))) = ends l m refl (λ n. refl) refl

gone-told : {w next : World} {p : ℕ} {reply : Reply} (c : Unfinished) (memory : Bool) → p < length w.calls → Goes w p c memory reply next
    → IsTold w p (Some c) memory reply next
unfolding Goes
gone-told {w} (Sharing h lo hi left) memory l r = shares h lo hi left memory (held_at w h) l r
gone-told (Dropping b false left) memory l (inl (n, e, f)) = ends l (e, f) refl (λ n. refl) refl
gone-told {w} (Dropping b false left) memory l (inr (inl (n, some, g))) = goes-on w (Dropping b true 1) l g refl (omega arith) some
gone-told (Dropping b false left) memory l (inr (inr (n, e, f))) = ends l (e, f) refl (λ n. refl) refl
gone-told (Dropping b true left) memory l (n, e, f) = ends l (e, f) refl (λ n. refl) refl

acts-told : {w next : World} {p : ℕ} {reply : Reply} (act : Act) (o : Option Unfinished) → p < length w.calls → ActsAt w p act o reply next
    → IsTold w p o (may_take act) reply next
acts-told (Begin call memory) None l r = begun-told call memory l r
acts-told (Begin call memory) (Some c) l r = absurd r
acts-told (Go memory) None l r = absurd r
acts-told (Go memory) (Some c) l r = gone-told c memory l r

-- ---- a step

-- only a holder too many stands against a call that goes on
only-ceiling : (w : World) (c : Unfinished) (why : Refusal) → cause_gone w c ≡ Some why → why ≡ Ceiling
only-ceiling w (Sharing h lo hi left) why e = grind (arith, e)
only-ceiling w (Dropping b let_go left) why e = absurd (cc)

refused-calls : (w next : World) (p : ℕ) (act : Act) (o : Option Unfinished) (why : Refusal) (reply : Reply) → p < length w.calls
    → cause_at w act o ≡ Some why → (reply ≡ Refused why) × (next ≡ refused_at w p act o) → Changes w p o reply next
refused-calls w next p (Begin call memory) o why reply l c m = kept m
refused-calls w next p (Go memory) None why reply l c m = kept m
refused-calls w next p (Go memory) (Some d) why reply l c (e, f) = ended l (e ∙ ap Refused (only-ceiling w d why c), f) refl (λ n. refl)

-- where no call is unfinished a refusal changes nothing
pub refused-none : (w : World) (p : ℕ) (act : Act) → refused_at w p act None ≡ w
refused-none w p (Begin call memory) = refl
refused-none w p (Go memory) = refl

-- the effect of a step on the calls, and the cause of its refusal, if its thread exists and if it doesn't
told-of : (w next : World) (p : ℕ) (act : Act) (o : Option Unfinished) (cause : Option Refusal) (reply : Reply) → p < length w.calls
    → cause_at w act o ≡ cause
    → MatchOption cause (ActsAt w p act o reply next) (λ why. (reply ≡ Refused why) × (next ≡ refused_at w p act o))
    → Changes w p o reply next × IsCaused (may_take act) cause reply
told-of w next p act o None reply l c m = let t = acts-told act o l m in (t.calls, t.beside)
told-of w next p act o (Some why) reply l c m = (refused-calls w next p act o why reply l c m, m.0)

told-by : (w next : World) (p : ℕ) (act : Act) (o : Option Unfinished) (v : Bool) (reply : Reply) → going_at w p ≡ o
    → nat_lt p (length w.calls) ≡ v
    → MatchOption (cond v (cause_at w act o) (Some Idle)) (ActsAt w p act o reply next)
    (λ why. (reply ≡ Refused why) × (next ≡ refused_at w p act o))
    → Changes w p o reply next × IsCaused (may_take act) (cond v (cause_at w act o) (Some Idle)) reply
told-by w next p act o true reply g e m = told-of w next p act o (cause_at w act o) reply (ltb-true p (length w.calls) e) refl m
told-by w next p act o false reply g e m =
    let n = sym g ∙ get_or_past w.calls p None (ltb-false p (length w.calls) e) in
    let f : refused_at w p act o ≡ w = rw n (refused-none w p act) in
    (kept {why = Idle} (m.0, m.1 ∙ f), m.0)

-- A step changes the call of its thread alone. The step is refused by its cause if one holds, and else only for denied
-- memory or a full table.
pub told : (w next : World) (step : Step) (reply : Reply) → Steps w step reply next
    → Changes w step.thread (going_at w step.thread) reply next × IsCaused (may_take step.act) (cause_of w step) reply
told w next step reply m = told-by w next step.thread step.act (going_at w step.thread)
    (nat_lt step.thread (length w.calls)) reply refl refl m
