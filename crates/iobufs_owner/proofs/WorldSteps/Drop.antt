-- A drop begins, read as a step of the world.
use Rattle.iobufs_owner.proofs.Base.{Kind, ◌≡◌, inl, inr, ℕ, Bool, true, false, cond, nat_eq, Some, None, ap, ◌∙◌, refl, arith, nat_tests, length-set, Handle, View, Mut, Subtract, Release, Word, Empty, Descriptor, Counted, Reply, Done, State, owner_of, handle_at, record_at, Dropping, is_block, reading, read_held, has_let_go, IsSound, done, unfinished_call, replaced, state_without, GoesOnWithin, free_of, held_gone, IsAnswered, owner-empty, owner-counted, eq-eqb, described-at, alone-at, alone-described, alone-written}
use Rattle.iobufs_owner.specs.LongCalls as long
use Rattle.iobufs_owner.specs.ShortCalls as short
use Rattle.iobufs_owner.specs.Steps as world
use Rattle.iobufs_owner.proofs.WorldSteps.Freeze.{freed-in, freed-entries}
use Rattle.iobufs_owner.proofs.WorldSteps.Taken.{reply-taken, replaced-in, called-in, goes-within}

-- beside others it will subtract, alone it will free
drop-viewed : {s t : State} {reply : Reply} (p h r : ℕ) (v : Bool) → nat_eq (record_at s.tables r).count 1 ≡ v
    → IsAnswered s (unfinished_call (state_without s h) p (cond v (Release r) (Subtract r))) reply t
    → GoesOnWithin (held_gone (reading s) h) p (Dropping (record_at s.tables r).block false) 2 reply (reading t)
drop-viewed {s} p h r true e i =
    let still : has_let_go s.tables r ≡ false = grind (arith, nat_tests, e) in
    let z = called-in (state_without s h) p (Some (Release r)) (replaced-in s h None refl refl) in
    goes-within 1 (omega arith) (omega arith) (reply-taken (simp length-set) (rw still at z) i)
drop-viewed {s} p h r false e i = goes-within 2 (omega arith) (omega arith)
    (reply-taken (simp length-set) (called-in (state_without s h) p (Some (Subtract r)) (replaced-in s h None refl refl)) i)

-- a handle that lets go is gone, and its block, if any, is freed
gone : {s t : State} {reply : Reply} (h : ℕ) (x : Handle) (w : Word) → IsSound s → handle_at s h ≡ Some x → x.word ≡ w
    → IsAnswered s (done (replaced (short.freed_with s x w) h None)) reply t
    → (reply ≡ Done) × (reading t ≡ held_gone (free_of (reading s) (owner_of s.tables x)) h)
gone {s} h x w k at e i = reply-taken (freed-entries s h x None w)
    (replaced-in (short.freed_with s x w) h None (freed-in s h x w k at e) refl) i

-- the first step of a drop has the effect that users see
pub drop-word : {s t : State} {reply : Reply} (p h : ℕ) (x : Handle) (w : Word) → IsSound s → handle_at s h ≡ Some x → x.word ≡ w
    → IsAnswered s (long.drop_by s p h x w) reply t → world.DropIs (reading s) p h (read_held s.tables x) reply (reading t)
drop-word {s} p h x Empty k at w i = let n = owner-empty s.tables x w in rw n (rw n at (gone h x Empty k at w i))
drop-word {s} p h x (Descriptor v) k at w i =
    let o = (described-at s h x v k at w).says.owner in
    let b = (described-at s h x v k at w).block in
    let one = alone-at s h x b k at (alone-described s.tables b x v w ∙ ap (is_block b) o ∙ eq-eqb b b refl) in
    let z = rw o at (gone h x (Descriptor v) k at w i) in
    rw o (inl (one, z.0, z.1))
drop-word {s} {t} {reply} p h x (Counted r) k at w i =
    let o = owner-counted s.tables x r w in
    let b : ℕ = (record_at s.tables r).block in
    let by : (kind : Kind) → x.kind ≡ kind → IsAnswered s (long.drop_counted s p h r kind) reply t
    → world.DropIs (reading s) p h (record (read_held s.tables x) { block = Some b }) reply (reading t) =
    λ kind. elim kind as (λ kind. x.kind ≡ kind → IsAnswered s (long.drop_counted s p h r kind) reply t
    → world.DropIs (reading s) p h (record (read_held s.tables x) { block = Some b }) reply (reading t)) [
      | View ↦ λ e i. inr (drop-viewed p h r (nat_eq (record_at s.tables r).count 1) refl i)
      | Mut ↦ λ e i.
          let one = alone-at s h x b k at (alone-written s.tables b x r w e ∙ ap (is_block b) o ∙ eq-eqb b b refl) in
          let z = rw o at (gone h x (Counted r) k at w i) in inl (one, z.0, z.1)
    ] in
    rw o (by x.kind refl i)
