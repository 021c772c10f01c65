-- The abstract state after an answered outcome (`IsAnswered`).
use Rattle.iobufs_owner.proofs.Base.{◌≡◌, ◌⊎◌, inl, inr, ℕ, Bool, true, false, cond, set, [], ◌∷◌, Some, None, Result, Ok, Err, All, ap, sym, ◌∙◌, refl, MatchBool, length-set, length-map, map-set, map-append, Handle, Pending, Word, Refusal, Reply, Made, Done, State, Tables, owner_of, World, LiveHandle, reading, read_held, read_handle, read_call, IsSound, Outcome, done, edited, called, replaced, made, part, part_of, lend_of, Lends, Kind, Refuses, NoRoom, Makes, held_set, call_set, IsAnswered, entries, grows-never, owner-empty, lend-tells, alone-reads, alone_of, read_lent, MatchOption, OnHeld, Option, cause_if, cause_or, handle_at, held-reads, Keeps, KeepsLetGo, handles-kept, calls-read-kept, with_record, with_count, counted, tables_without, GoesOn, GoesOnWithin, Unfinished, ◌<◌, ◌≤◌}
use Rattle.iobufs_owner.specs.Changes as change
use Rattle.iobufs_owner.specs.Steps as world
use Rattle.iobufs_owner.proofs.Soundness.{recorded-keeps, recorded-let_go, counted-keeps, dead-keeps, dead-let_go}

-- ---- readings

-- another handle or none under a number is, read, that in the world
pub replaced-in : {w : World} {z : Option LiveHandle} (s : State) (h : ℕ) (o : Option Handle) → reading s ≡ w → read_handle s.tables o ≡ z
    → reading (replaced s h o) ≡ record w { handles = set w.handles h z }
replaced-in s h o r e = rw (← r, ← e, map-set (read_handle s.tables) s.handles h o) refl

-- another call of a thread is, read, that in the world
pub called-in : {w : World} (s : State) (p : ℕ) (c : Option Pending) → reading s ≡ w
    → reading (called s p c) ≡ call_set w p (read_call s.tables c)
called-in s p c r = rw (← r, map-set (read_call s.tables) s.calls p c) refl

kept-in : {s : State} {g : Tables} → IsSound s → Keeps s.tables g → All (KeepsLetGo s.tables g) s.calls → g.blocks ≡ s.tables.blocks
    → reading (record s { tables = g }) ≡ reading s
kept-in {s} {g} k e a b = rw (handles-kept s.tables g s.calls s.handles e k.fit, calls-read-kept s g s.calls e a k.calls_fit, b) refl

-- users don't see a record more
pub recorded-in : (s : State) (n b : ℕ) → IsSound s → reading (with_record s n b) ≡ reading s
recorded-in s n b k = kept-in k (recorded-keeps s.tables n b) (recorded-let_go s.tables n b _) refl

-- users don't see another count of a record, where each drop has let go as before
pub counted-in : (s : State) (r n : ℕ) → IsSound s → All (KeepsLetGo s.tables (counted s.tables r n)) s.calls
    → reading (with_count s r n) ≡ reading s
counted-in s r n k a = kept-in k (counted-keeps s.tables r n) a refl

-- users don't see that a record is dead
pub dead-in : (s : State) (r : ℕ) → IsSound s → reading (record s { tables = tables_without s.tables r }) ≡ reading s
dead-in s r k = kept-in k (dead-keeps s.tables r) (dead-let_go s.tables r _) refl

-- a view without block is read as one
pub reads-detached : (g : Tables) (len : ℕ) → read_held g (change.detached_handle len) ≡ world.detached len
reads-detached g len = rw (owner-empty g (change.detached_handle len) refl) refl

-- a part of a view, where it holds what the view held, is read as that part
pub reads-part : (g k : Tables) (x : Handle) (lo hi : ℕ) (w : Word) → owner_of k (part x lo hi w) ≡ owner_of g x
    → read_held k (part x lo hi w) ≡ part_of (read_held g x) lo hi
reads-part g k x lo hi w e = rw e refl

-- ---- outcomes

-- a call that changes something, goes on or ends, where no entry is added
pub reply-taken : {s u t : State} {w : World} {answer reply : Reply} → entries u ≡ entries s → reading u ≡ w
    → IsAnswered s (record { reply = answer; state = u }) reply t → (reply ≡ answer) × (reading t ≡ w)
reply-taken n r (inl (e, f)) = (e, ap reading f ∙ r)
reply-taken {s} {u} n r (inr l) = absurd (grows-never s u n l.grows)

-- users see a reply that changes nothing as that reply
pub same-taken : {s t : State} {answer reply : Reply} → IsAnswered s (record { reply = answer; state = s }) reply t
    → (reply ≡ answer) × (reading t ≡ reading s)
same-taken i = reply-taken refl refl i

-- a call that has this many steps more to take at most, and at least one
pub goes-within : {w next : World} {p most : ℕ} {call : ℕ → Unfinished} {reply : Reply} (left : ℕ) → 0 < left → left ≤ most
    → GoesOn w p (call left) reply next → GoesOnWithin w p call most reply next
goes-within left some few goes = record { left = left; some = some; few = few; goes = goes }

-- a change that may add one
pub grown-taken : {s u t : State} {w : World} {answer reply : Reply} → reading u ≡ w
    → IsAnswered s (record { reply = answer; state = u }) reply t
    → NoRoom (reading s) reply (reading t) ⊎ ((reply ≡ answer) × (reading t ≡ w))
grown-taken r (inl (e, f)) = inr (e, ap reading f ∙ r)
grown-taken r (inr l) = inl (l.refused, ap reading l.same)

-- one handle more than u has
pub made-taken : {s t : State} {w : World} {y : LiveHandle} {reply : Reply} (u : State) (x : Handle) → reading u ≡ w
    → read_held u.tables x ≡ y
    → IsAnswered s (made u x) reply t → NoRoom (reading s) reply (reading t) ⊎ Makes w y reply (reading t)
made-taken u x r e (inl (i, f)) =
    let n = map-append (read_handle u.tables) u.handles (Some x ∷ []) in
    rw (← r, ← e) (inr (i ∙ ap Made (sym (length-map u.handles (read_handle u.tables))), ap reading f ∙ rw n refl))
made-taken u x r e (inr l) = inl (l.refused, ap reading l.same)

-- a handle is changed
pub edit-taken : {s t : State} {z : LiveHandle} {reply : Reply} (h : ℕ) (y : Handle) → read_held s.tables y ≡ z
    → IsAnswered s (done (edited s h y)) reply t → (reply ≡ Done) × (reading t ≡ held_set (reading s) h z)
edit-taken {s} h y e i = reply-taken (simp length-set) (replaced-in s h (Some y) refl (ap Some e)) i

-- ---- tests

-- where a test chooses between two outcomes, what follows from each follows by the test
pub by-test : {P Q : Type 0} {s t : State} {a b : Outcome} {reply : Reply} (v : Bool) → (v ≡ true → IsAnswered s a reply t → P)
    → (v ≡ false → IsAnswered s b reply t → Q) → IsAnswered s (cond v a b) reply t → MatchBool v P Q
by-test true f g i = f refl i
by-test false f g i = g refl i

-- where a test chooses between two outcomes, what follows from each by the test follows
pub either-taken : {P : Type 0} {s t : State} {a b : Outcome} {reply : Reply} (v : Bool) → (v ≡ true → IsAnswered s a reply t → P)
    → (v ≡ false → IsAnswered s b reply t → P) → IsAnswered s (cond v a b) reply t → P
either-taken true f g i = f refl i
either-taken false f g i = g refl i

-- where a cause stands against a step by a test, the step is refused by it or has the outcome that it has else
pub by-cause : {P : Type 0} {s t : State} {b : Outcome} {reply : Reply} (why : Refusal) (v : Bool)
    → (v ≡ false → IsAnswered s b reply t → P)
    → IsAnswered s (cond v (change.refused s why) b) reply t
    → MatchOption (cause_if v why) P (λ why. Refuses (reading s) why reply (reading t))
by-cause why true g i = same-taken i
by-cause why false g i = g refl i

-- ---- the handle of a call

-- a call is refused by its cause, or has its effect on the handle that users see under the number
abbrev pub Had : State → State → ℕ → Result LiveHandle Refusal → (LiveHandle → Option Refusal) → (LiveHandle → Type 0) → Reply → Type 0
Had s t h r against P reply = MatchOption (cause_or r against) (OnHeld (reading s) h P) (λ why. Refuses (reading s) why reply (reading t))

-- a property of a handle of the tables, as users see it, holds of the handle that they see under its number
seen : (s t : State) (h : ℕ) (x : Handle) (P : LiveHandle → Type 0) (reply : Reply) (o : Option Refusal) → handle_at s h ≡ Some x
    → MatchOption o (P (read_held s.tables x)) (λ why. Refuses (reading s) why reply (reading t))
    → MatchOption o (OnHeld (reading s) h P) (λ why. Refuses (reading s) why reply (reading t))
seen s t h x P reply None at m = (read_held s.tables x, held-reads s h ∙ ap (read_handle s.tables) at, m)
seen s t h x P reply (Some why) at m = m

-- users see a call that is refused by its cause, or else what it does with the handle that they see under the number
pub had : (s t : State) (h : ℕ) (r : Result Handle Refusal) (f : Handle → Outcome) (q : Result LiveHandle Refusal)
    (against : LiveHandle → Option Refusal)
    (P : LiveHandle → Type 0) (reply : Reply) → q ≡ read_lent s.tables r → IsAnswered s (change.on_lent s r f) reply t
    → ((x : Handle) → r ≡ Ok x → IsAnswered s (f x) reply t → (handle_at s h ≡ Some x)
    × MatchOption (against (read_held s.tables x)) (P (read_held s.tables x)) (λ why. Refuses (reading s) why reply (reading t)))
    → Had s t h q against P reply
had s t h (Err why) f q against P reply e i g = rw e (same-taken i)
had s t h (Ok x) f q against P reply e i g =
    let m = g x refl i in
    rw e (seen s t h x P reply (against (read_held s.tables x)) m.0 m.1)

-- users see such a call of a handle that it has to have alone, of one kind
pub had-alone : {s t : State} {f : Handle → Outcome} {reply : Reply} (against : LiveHandle → Option Refusal) (P : LiveHandle → Type 0)
    (h : ℕ) (kind : Kind)
    → IsAnswered s (change.on_lent s (lend_of s h kind) f) reply t
    → ((x : Handle) → Lends s h kind x → IsAnswered s (f x) reply t
    → MatchOption (against (read_held s.tables x)) (P (read_held s.tables x)) (λ why. Refuses (reading s) why reply (reading t)))
    → Had s t h (alone_of (reading s) h kind) against P reply
had-alone {s} {t} {reply} against P h kind i g = had s t h (lend_of s h kind) _ _ _ _ reply (alone-reads s h kind) i (λ x e i.
    (let l = lend-tells s h kind x e in (l.at, g x l i)))
