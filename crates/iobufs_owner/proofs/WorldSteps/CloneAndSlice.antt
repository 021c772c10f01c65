-- Clones and slices, and the further steps of drops, read as steps of the world.
use Rattle.iobufs_owner.proofs.Base.{cause_if, is_over, Ceiling, ◌≡◌, ◌≢◌, inl, inr, ℕ, ◌+◌, ◌-◌, Bool, true, false, cond, nat_lt, nat_eq, Option, Some, None, MatchOption, ap, sym, ◌∙◌, refl, arith, length-set, Handle, Share, Loaded, Ready, Add, Subtract, Release, Word, Empty, Descriptor, Counted, Reply, Done, Refused, State, owner_of, handle_at, call_at, record_at, World, Dropping, holders, is_block, reading, read_held, read_handle, IsSound, IsRacing, IsAdding, called, edited, part, counted, with_count, with_record, record_freed, next_record, ended, shared, loaded_block, ready_of, gone_on, SharesOn, Goes, call_set, free_in, IsAnswered, owner-empty, owner-counted, eq-eqb, described-at, counted-at, alone-at, live-inside, alone-described, eqb-true, ShareIs, le-ltb}
use Rattle.iobufs_owner.specs.LongCalls as long
use Rattle.iobufs_owner.proofs.Soundness.{counted-let_go, counted-more, counted-block, by_record, letting-go, counted-drops, gone-after}
use Rattle.iobufs_owner.proofs.WorldSteps.Taken.{reply-taken, reads-part, grown-taken, made-taken, recorded-in, counted-in, dead-in, called-in, either-taken, goes-within}
use Rattle.iobufs_owner.proofs.WorldSteps.Demote.{unchanged-in}

-- ---- clones and slices

-- the effect of a further step of a clone or slice in the abstract state, by the handle that it borrows
abbrev pub GoesAs : State → ℕ → Share → ℕ → Bool → Option Handle → Reply → World → Type 0
GoesAs s p k left memory o reply next = SharesOn (reading s) p k.handle k.lo k.hi left memory (read_handle s.tables o) reply next

-- the step that makes a record, of a clone or slice in a sound machine, is one of a call with three steps left
pub loaded-as : {s t : State} {reply : Reply} (p : ℕ) (k : Share) (w : ℕ) (x : Handle) (memory : Bool) → IsSound s
    → IsAnswered s (ready_of s p k w memory) reply t → GoesAs s p k 3 memory (Some x) reply (reading t)
loaded-as {s} p k w x true i y =
    let b : ℕ = loaded_block s k w in
    elim (grown-taken (called-in (with_record s 2 b) p (Some (Ready k w (next_record s))) (recorded-in s 2 b i)) y)
    [ inl a ↦ inr (inr (inl (refl, refl, a))) | inr a ↦ inr (inl (2, omega arith, omega arith, a)) ]
loaded-as {s} p k w x false i y = let a = reply-taken refl (called-in s p None refl) y in inl (refl, refl, a.0, a.1)

-- the compare-exchange of a clone or slice in a sound machine is a step of a call with two steps left
pub race-as : {s t : State} {reply : Reply} (p : ℕ) (k : Share) (w r : ℕ) (memory : Bool) → IsSound s → (a : IsRacing s k w r)
    → IsAnswered s (long.race_of s p k w r) reply t → GoesAs s p k 2 memory (Some a.view) reply (reading t)
race-as {s} {t} {reply} p k w r memory i a y = elim a.promised.now' [
  | inl e ↦ (
      let ow = a.promised.owner in
      let one = alone-at s k.handle a.view a.block i a.shares.at
      (alone-described s.tables a.block a.view w e ∙ ap (is_block a.block) ow ∙ eq-eqb a.block a.block refl) in
      let c = i.size.ceiling in
      let o : (x : Handle) → x.word ≡ Counted r → owner_of s.tables x ≡ owner_of s.tables a.view =
      λ x xw. owner-counted s.tables x r xw ∙ ap Some a.same ∙ sym ow in
      let never : is_over (reading s) (owner_of s.tables a.view) ≡ false =
      rw ow (le-ltb s.ceiling (holders (reading s) a.block) (omega (arith, one, c))) in
      let u : State = edited s k.handle (by_record a.view r) in
      inr (inr (inr (
        never,
        omega arith,
        made-taken (called u p None) (part a.view k.lo k.hi (Counted r))
            (called-in u p None (unchanged-in s s k.handle a.view (by_record a.view r) refl a.shares.at
            (rw (o (by_record a.view r) refl) refl)))
            (reads-part s.tables s.tables a.view k.lo k.hi (Counted r) (o (part a.view k.lo k.hi (Counted r)) refl))
            (rw (a.shares.at, e, eq-eqb w w refl) at y),
      ))))
  | inr (winner, e) ↦
      inr (inl (
        1,
        omega arith,
        omega arith,
        reply-taken (simp length-set)
            (called-in (record_freed s r) p (Some (Add k winner)) (dead-in s r i)) (rw (a.shares.at, e) at y),
      ))
]

-- the step that counts a holder, of a clone or slice in a sound machine, is one of a call with one step left
pub add-as : {s t : State} {reply : Reply} (p : ℕ) (k : Share) (r : ℕ) (memory v : Bool) → IsSound s → (a : IsAdding s k r)
    → nat_lt s.ceiling (record_at s.tables r).count ≡ v
    → IsAnswered s (cond v (ended s p Ceiling) (shared (with_count s r ((record_at s.tables r).count + 1)) p k a.view r)) reply t
    → MatchOption (cause_if v Ceiling) (GoesAs s p k 1 memory (Some a.view) reply (reading t))
    (λ why. (reply ≡ Refused why) × (reading t ≡ call_set (reading s) p None))
add-as {s} p k r memory true i a e y = reply-taken refl (called-in s p None refl) y
add-as {s} p k r memory false i a e y =
    let c = counted-at s k.handle a.view r i a.shares.at a.word in
    let n = (i.counted r c.live).counts c.shown in
    let m : ℕ = (record_at s.tables r).count + 1 in
    let front : Handle = part a.view k.lo k.hi (Counted r) in
    let ow = owner-counted s.tables a.view r a.word in
    let of = owner-counted (counted s.tables r m) front r refl ∙ ap Some (counted-block s.tables r m r) ∙ sym ow in
    let never : is_over (reading s) (owner_of s.tables a.view) ≡ false = rw (ow, ← n) e in
    let r' = counted-in s r m i (λ n d l q j t. counted-let_go s.tables r m q (counted-more s k.handle a.view r i a.shares.at a.word)) in
    inr (inr (inr (
      never,
      omega arith,
      made-taken (called (with_count s r m) p None) front (called-in (with_count s r m) p None r')
          (reads-part s.tables (counted s.tables r m) a.view k.lo k.hi (Counted r) of) y,
    )))

-- ---- drops

-- the step that lowers the count, of a drop in a sound machine, is one of a drop with two steps left that has not let go
pub subtract-as : {s t : State} {reply : Reply} (p r : ℕ) (memory : Bool) → IsSound s → call_at s p ≡ Some (Subtract r)
    → IsAnswered s (gone_on s p (Subtract r) memory) reply t
    → Goes (reading s) p (Dropping (record_at s.tables r).block false 2) memory reply (reading t)
unfolding Goes
subtract-as {s} p r memory i at y =
    let f = letting-go s p r i at in
    let m : ℕ = (record_at s.tables r).count - 1 in
    let n = (i.counted r f.live).counts f.shown in
    let kept = counted-in s r m i (counted-drops s p r m i at) in
    either-taken (nat_eq (record_at s.tables r).count 1) (λ e y.
    let one = eqb-true (record_at s.tables r).count 1 e in
    let z = called-in (with_count s r m) p (Some (Release r)) kept in
    inr (inl (
      sym n ∙ one,
      omega arith,
      reply-taken (simp length-set)
          (rw (gone-after s.tables r (live-inside s.tables.records r f.live) one, counted-block s.tables r m r) at z) y,
    ))) (λ e y.
    let ne : (record_at s.tables r).count ≢ 1 = λ z. (let q = eq-eqb (record_at s.tables r).count 1 z in cc) in
    let z = reply-taken (simp length-set) (called-in (with_count s r m) p None kept) y in inl (omega (arith, n, ne, f.some), z.0, z.1)) y

-- the last step of a drop, by whether it has let go
pub frees : (w : World) {next : World} {reply : Reply} (p b : ℕ) (v memory : Bool) → holders w b ≡ cond v 0 1
    → (reply ≡ Done) × (next ≡ free_in (call_set w p None) b)
    → Goes w p (Dropping b v 1) memory reply next
unfolding Goes
frees w p b true memory n z = (n, z.0, z.1)
frees w p b false memory n z = inr (inr (n, z.0, z.1))

-- ---- a clone or a slice begins

-- the first step of a clone or slice of bytes has the effect that users see
pub begun-word : {s t : State} {reply : Reply} (p h lo hi : ℕ) (x : Handle) (w : Word) → IsSound s → handle_at s h ≡ Some x → x.word ≡ w
    → IsAnswered s (long.share_by s p (record { handle = h; lo = lo; hi = hi }) x w) reply t
    → ShareIs (reading s) p h lo hi (read_held s.tables x) reply (reading t)
begun-word {s} p h lo hi x Empty k at e y =
    let n = owner-empty s.tables x e in
    let z = made-taken s (part x lo hi Empty) refl
    (reads-part s.tables s.tables x lo hi Empty (owner-empty s.tables (part x lo hi Empty) refl ∙ sym n)) y in
    rw n (rw n at z)
begun-word {s} p h lo hi x (Descriptor w) k at e y = rw (described-at s h x w k at e).says.owner (goes-within 3 (omega arith) (omega arith)
    (reply-taken refl (called-in s p (Some (Loaded (record { handle = h; lo = lo; hi = hi }) w)) refl) y))
begun-word {s} p h lo hi x (Counted r) k at e y = rw (owner-counted s.tables x r e) (goes-within 1 (omega arith) (omega arith)
    (reply-taken refl (called-in s p (Some (Add (record { handle = h; lo = lo; hi = hi }) r)) refl) y))
