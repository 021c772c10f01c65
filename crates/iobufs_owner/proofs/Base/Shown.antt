-- Users see under a number the entry of the tables, read: a handle, its capacity, and the cause against it.
use Rattle.iobufs_owner.proofs.Base.Known.{◌≡◌, ℕ, Bool, true, false, Option, Some, None, Result, Ok, Err, List, [], ◌∷◌, map, sym, refl, arith, Handle, Kind, View, Mut, Pending, Loaded, Word, Empty, Descriptor, Counted, Refusal, State, Tables, owner_of, handle_at, IsSound, FitsWord, LiveHandle, held_at, borrows, is_shared, reading, read_handle, read_held, read_call, lend_of, is_lent, borrows_it, same_kind, alone_of, any_of, view_of, capacity, capacity_in, ap, asked, is_empty, is_some, lend_any_of, lend_owning_of, lend_owning_view_of, lend_view_of, not, owning_of, owning_view_of, ◌&&◌, get_or-read}
use Rattle.iobufs_owner.proofs.Base.StaysSound.{owner-empty, owner-counted}
use Rattle.iobufs_owner.proofs.Base.Kept.{fits-at}
use Rattle.iobufs_owner.proofs.Base.Edits.{described-at}

-- users see under a number the handle of the tables, read
pub held-reads : (s : State) (h : ℕ) → held_at (reading s) h ≡ read_handle s.tables (handle_at s h)
held-reads s h = get_or-read (read_handle s.tables) s.handles h None

borrow-reads : (g : Tables) (h : ℕ) (c : Option Pending) → borrows h (read_call g c) ≡ borrows_it h c
borrow-reads g h None = refl
borrow-reads g h (Some (Loaded k w)) = refl
borrow-reads g h c = refl

-- users see a handle borrowed exactly where a call of the tables borrows it
pub shared-reads : (g : Tables) (h : ℕ) (cs : List (Option Pending)) → is_shared h (map (read_call g) cs) ≡ is_lent h cs
shared-reads g h [] = refl
shared-reads g h (c ∷ cs) = rw (borrow-reads g h c, shared-reads g h cs) refl

-- the result of borrowing, as users see it
abbrev pub read_lent : Tables → Result Handle Refusal → Result LiveHandle Refusal
read_lent g (Err why) = Err why
read_lent g (Ok x) = Ok (read_held g x)

-- users see what may be had under a number, or the same cause against it, where their test gives the same result for its entry
asked-reads : (s : State) (h : ℕ) (test : Handle → Bool) (seen : LiveHandle → Bool) {b c : Bool}
    → ((x : Handle) → handle_at s h ≡ Some x → seen (read_held s.tables x) ≡ test x) → c ≡ b
    → asked seen c (held_at (reading s) h) ≡ read_lent s.tables (asked test b (handle_at s h))
asked-reads s h test seen {b} {c} t e =
    let by : (o : Option Handle) → handle_at s h ≡ o → asked seen c (read_handle s.tables o) ≡ read_lent s.tables (asked test b o) =
    λ o. elim o as (λ o. handle_at s h ≡ o → asked seen c (read_handle s.tables o) ≡ read_lent s.tables (asked test b o))
    [ None ↦ λ a. refl | Some x ↦ λ a. rw (t x a, e) (grind (arith)) ] in
    rw (held-reads s h) (by (handle_at s h) refl)

-- users see the handle of this kind that a call may have alone, or the same cause against it
pub alone-reads : (s : State) (h : ℕ) (kind : Kind) → alone_of (reading s) h kind ≡ read_lent s.tables (lend_of s h kind)
alone-reads s h kind = asked-reads s h (λ x. same_kind x.kind kind) (λ x. same_kind x.kind kind) (λ x _. refl)
    (shared-reads s.tables h s.calls)

-- users see the handle of either kind that a call may have alone, or the same cause against it
pub any-reads : (s : State) (h : ℕ) → any_of (reading s) h ≡ read_lent s.tables (lend_any_of s h)
any-reads s h = asked-reads s h (λ x. true) (λ x. true) (λ x _. refl) (shared-reads s.tables h s.calls)

-- users see the view that a call may share, or the same cause against it
pub view-reads : (s : State) (h : ℕ) → view_of (reading s) h ≡ read_lent s.tables (lend_view_of s h)
view-reads s h = asked-reads s h (λ x. same_kind x.kind View) (λ x. same_kind x.kind View) {b = false} (λ x _. refl) refl

owner-some : (s : State) (h : ℕ) (x : Handle) (w : Word) → IsSound s → handle_at s h ≡ Some x → x.word ≡ w
    → is_some (owner_of s.tables x) ≡ not (is_empty w)
owner-some s h x Empty k at e = rw (owner-empty s.tables x e) refl
owner-some s h x (Descriptor v) k at e = rw (described-at s h x v k at e).says.owner refl
owner-some s h x (Counted r) k at e = rw (owner-counted s.tables x r e) refl

-- in a sound machine users see the handle with a block that a call may have alone, or the same cause against it
pub owning-reads : (s : State) (h : ℕ) → IsSound s → owning_of (reading s) h ≡ read_lent s.tables (lend_owning_of s h)
owning-reads s h k =
    asked-reads s h (λ x. not (is_empty x.word)) (λ x. is_some x.block) (λ x at. owner-some s h x x.word k at refl)
    (shared-reads s.tables h s.calls)

-- in a sound machine users see the view with a block that a call may have alone, or the same cause against it
pub owning-view-reads : (s : State) (h : ℕ) → IsSound s → owning_view_of (reading s) h ≡ read_lent s.tables (lend_owning_view_of s h)
owning-view-reads s h k = asked-reads s h (λ x. same_kind x.kind View && not (is_empty x.word))
    (λ x. same_kind x.kind View && is_some x.block)
    (λ x at. ap (λ (v : Bool). same_kind x.kind View && v) (owner-some s h x x.word k at refl)) (shared-reads s.tables h s.calls)

-- in a sound machine the capacity that users see of a writable handle is its own
pub capacity-reads : (s : State) (h : ℕ) (x : Handle) → IsSound s → handle_at s h ≡ Some x → x.kind ≡ Mut
    → capacity (reading s) (read_held s.tables x) ≡ x.cap
capacity-reads s h x k at m =
    let by : (w : Word) → x.word ≡ w → FitsWord s.tables s.calls x w → capacity_in (reading s) x.ptr (owner_of s.tables x) ≡ x.cap =
    λ w. elim w as (λ w. x.word ≡ w → FitsWord s.tables s.calls x w → capacity_in (reading s) x.ptr (owner_of s.tables x) ≡ x.cap) [
      | Empty ↦ λ e f. rw (owner-empty s.tables x e) (sym f.no_room)
      | Descriptor w ↦ λ e d. let lies = rw m at d.says.lies in rw d.says.owner (omega (arith, lies.ends))
      | Counted r ↦ λ e f. let lies = rw m at f.lies in rw (owner-counted s.tables x r e) (omega (arith, lies.ends))
    ] in
    by x.word refl (fits-at s h x k at)
