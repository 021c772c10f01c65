-- Holders and users as counts over the machine's own lists.
use Rattle.iobufs_owner.proofs.Base.Known.{FitsCall, nat_tests, ◌≡◌, ℕ, ◌+◌, ◌<◌, ◌≤◌, ◌==◌, ◌&&◌, ◌||◌, Bool, true, false, cond, get_or, refl, arith, Option, Some, None, State, Tables, owner_of, record_at, handle_at, holds, holders, users, still_holds, drops, tally, reading, read_handle, read_call, has_let_go, alone, describes, is_descriptor, releases, is_mut, Handle, Pending, Subtract, Release, eq-eqb, and_parts, cases_Bool, inl, inr}
use Rattle.iobufs_owner.proofs.Base.Kept.{at-some}
use Rattle.iobufs_owner.proofs.Base.Counts.{count-some, count-most, held_by, holders-as, users-as}

-- a handle that has to be alone on a block holds it
pub alone-holds : (g : Tables) (b : ℕ) (o : Option Handle) → alone g b o ≡ true → holds b (read_handle g o) ≡ true
alone-holds g b None e = e
alone-holds g b (Some x) e = (and_parts (holds b (read_handle g (Some x))) (is_descriptor x.word || is_mut x.kind) e).0

pub describes-holds : (g : Tables) (b : ℕ) (o : Option Handle) → describes g b o ≡ true → holds b (read_handle g o) ≡ true
describes-holds g b None e = e
describes-holds g b (Some x) e = (and_parts (holds b (read_handle g (Some x))) (is_descriptor x.word) e).0

-- a handle that must be alone, or that is a descriptor, is a holder
pub alone-few : (s : State) (b : ℕ) → tally (alone s.tables b) s.handles ≤ holders (reading s) b
alone-few s b = omega (arith, holders-as s b, count-most (held_by s.tables b) (alone s.tables b) s.handles (alone-holds s.tables b))

-- no more handles describe a block than hold it
pub describes-few : (s : State) (b : ℕ) → tally (describes s.tables b) s.handles ≤ holders (reading s) b
describes-few s b = omega (
  arith,
  holders-as s b,
  count-most (held_by s.tables b) (describes s.tables b) s.handles
      (describes-holds s.tables b),
)

-- a handle of a block is one that holds it
pub held-at : (s : State) (h : ℕ) (x : Handle) (b : ℕ) → handle_at s h ≡ Some x → owner_of s.tables x ≡ Some b
    → held_by s.tables b (get_or s.handles h None) ≡ true
held-at s h x b at o = rw (at, o) (eq-eqb b b refl)

-- its block is known
pub owner-used : (s : State) (h : ℕ) (x : Handle) (b : ℕ) → handle_at s h ≡ Some x → owner_of s.tables x ≡ Some b → 0 < users (reading s) b
owner-used s h x b at o = omega (
  arith,
  users-as s b,
  count-some (held_by s.tables b) s.handles h None (at-some s.handles h x at) (held-at s h x b at o),
)

-- ---- drops that have let go

-- whether a call is a drop of the block that has let go
abbrev pub lets_go : Tables → ℕ → Option Pending → Bool
lets_go g b (Some (Release q)) = (b == (record_at g q).block) && has_let_go g q
lets_go g b c = false

-- a call is a drop of a block exactly where it holds it still or has let go of it, and it is never both
pub drops-split : (g : Tables) (b : ℕ) (c : Option Pending)
    → cond (drops b (read_call g c)) 1 0 ≡ cond (still_holds b (read_call g c)) 1 0 + cond (lets_go g b c) 1 0
drops-split g b (Some (Subtract q)) = omega arith
drops-split g b (Some (Release q)) = elim (cases_Bool (has_let_go g q)) [ inl e ↦ rw e (grind (arith)) | inr e ↦ rw e (grind (arith)) ]
drops-split g b c = refl

-- a drop that has let go of a block has its last step to take
pub go-releases : (g : Tables) (b : ℕ) (c : Option Pending) → lets_go g b c ≡ true → releases g b c ≡ true
go-releases g b (Some (Release q)) e = (and_parts (b == (record_at g q).block) (has_let_go g q) e).0
go-releases g b c e = e

-- a call that is about to free a block is its only holder, or has let it go, and then there is none
pub release-alone : (s : State) (b : ℕ) (c : Option Pending) → FitsCall s c → releases s.tables b c ≡ true
    → holders (reading s) b ≡ cond (still_holds b (read_call s.tables c)) 1 0
release-alone s b (Some (Release q)) f t =
    let same : b ≡ (record_at s.tables q).block = grind (arith, nat_tests, t) in
    elim (cases_Bool (has_let_go s.tables q)) [
      | inl e ↦ rw (same, e) (rw e at f.alone)
      | inr e ↦ rw (same, e, eq-eqb (record_at s.tables q).block (record_at s.tables q).block refl) (rw e at f.alone)
    ]
release-alone s b c f t = absurd (cc)
