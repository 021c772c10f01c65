-- Demote, read as a step of the world.
use Rattle.iobufs_owner.proofs.Base.{List, ◌≡◌, inl, inr, ℕ, map, Option, Some, None, ap, sym, ◌∙◌, subst, refl, length-set, Handle, View, Word, Empty, Descriptor, Counted, Reply, State, owner_of, handle_at, reading, read_held, read_handle, IsSound, edited, record_freed, Lends, may_demote, described, IsAnswered, get_or-read, owner-counted, counted-at, Declines, Done, MayRecover, World, ◌⊎◌, LiveHandle}
use Rattle.iobufs_owner.specs.ShortCalls as short
use Rattle.iobufs_owner.proofs.WorldSteps.Taken.{same-taken, reply-taken, replaced-in, dead-in, either-taken}
use Rattle.iobufs_owner.proofs.Soundness.{may-tells, owner-demoted, set-get}

-- a handle that is read as the one before it leaves the world as it was
pub unchanged-in : (s u : State) (h : ℕ) (x y : Handle) → reading u ≡ reading s → handle_at s h ≡ Some x
    → read_held u.tables y ≡ read_held s.tables x
    → reading (edited u h y) ≡ reading s
unchanged-in s u h x y r at e =
    let own = set-get (map (read_handle s.tables) s.handles) h (Some (read_held s.tables x)) None
    (sym (get_or-read (read_handle s.tables) s.handles h None ∙ ap (read_handle s.tables) at)) in
    replaced-in u h (Some y) r (ap Some e) ∙ ap (λ (hs : List (Option LiveHandle)). record (reading s) { handles = hs }) own

-- the effect of a demotion in the abstract state, by the block that the view holds
abbrev Demotes : State → Handle → Option ℕ → Reply → World → Type 0
Demotes s x o reply next =
    (MayRecover (reading s) (read_held s.tables x) o × (reply ≡ Done) × (next ≡ reading s)) ⊎ Declines (reading s) reply next

-- a demotion has that effect
pub demote-word : {s t : State} {reply : Reply} (h : ℕ) (x : Handle) (w : Word) → IsSound s → Lends s h View x → x.word ≡ w
    → IsAnswered s (short.demote_by s h x w) reply t → Demotes s x (owner_of s.tables x) reply (reading t)
demote-word h x Empty k l w i = inr (same-taken i)
demote-word h x (Descriptor v) k l w i = inr (same-taken i)
demote-word {s} {t} {reply} h x (Counted r) k l w i =
    let c = counted-at s h x r k l.at w in
    let o = owner-counted s.tables x r w in
    subst (λ (o : Option ℕ). Demotes s x o reply (reading t)) (sym o) (either-taken (may_demote s.tables x r) (λ e i.
    let may = may-tells s.tables x r e in
    let q = reply-taken (simp length-set) (unchanged-in s (record_freed s r) h x (described s.tables x r) (dead-in s r k) l.at
    (rw (owner-demoted s h r x k l w may, o) refl)) i in inl ((may.native, sym ((k.counted r c.live).counts c.shown) ∙ may.one), q.0, q.1))
    (λ e i. inr (same-taken i)) i)
