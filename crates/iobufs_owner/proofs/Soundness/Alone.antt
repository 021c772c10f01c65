-- If a handle is the only holder of its block and goes by a record, nothing else speaks of the block or the record.
use Rattle.iobufs_owner.proofs.Base.{◌≡◌, ◌≢◌, inl, inr, ℕ, ◌<◌, true, false, length, sym, ◌∙◌, ap, refl, arith, Option, Some, None, nat_tests, eqb_tells, State, owner_of, record_at, handle_at, call_at, holders, users, tally, reading, IsSound, Fits, FitsCall, hidden, readies, tables_without, is_lent, Handle, Pending, Ready, Subtract, Release, Counted, count-some, count-two, count-sum, names, at-some, owner-counted, eq-eqb, counted-at, held_by, still_by, drops_by, holders-as, users-as, held-at, lets_go, drops-split, count-none, fit-on, ◌⊎◌, list_any_at, borrows_it, go-releases, part, release-alone}
use Rattle.iobufs_owner.proofs.Soundness.RecordFreed.{dead-other, dead-keeps}

-- handle h is the only handle and the only user of block b, and no unfinished drop is of the block
pub record Only (s : State) (h b : ℕ) : Type 0 where
  pub held : tally (held_by s.tables b) s.handles ≡ 1
  pub dropped : tally (drops_by s.tables b) s.calls ≡ 0
  pub users : users (reading s) b ≡ 1
  pub handle : (i : ℕ) (y : Handle) → handle_at s i ≡ Some y → owner_of s.tables y ≡ Some b → i ≡ h

-- where a handle's block has one holder, the handle is its only one, no unfinished drop is of the block, and it has one user
pub only : (s : State) (h b : ℕ) (x : Handle) → IsSound s → handle_at s h ≡ Some x → owner_of s.tables x ≡ Some b
    → holders (reading s) b ≡ 1 → Only s h b
only s h b x k at o one =
    let l = at-some s.handles h x at in
    let some = count-some (held_by s.tables b) s.handles h None l (held-at s h x b at o) in
    let sum = holders-as s b in
    let held : tally (held_by s.tables b) s.handles ≡ 1 = omega (arith, sum, one, some) in
    let still : tally (still_by s.tables b) s.calls ≡ 0 = omega (arith, sum, one, some) in
    let split = count-sum (drops_by s.tables b) (still_by s.tables b) (lets_go s.tables b) s.calls (drops-split s.tables b) in
    let gone = count-none (lets_go s.tables b) None s.calls (λ i l t.
    let n = release-alone s b (call_at s i) (k.calls_fit i None l) (go-releases s.tables b (call_at s i) t) in
    let d = rw t at (drops-split s.tables b (call_at s i)) in grind (arith, n, d, one)) in
    let dropped : tally (drops_by s.tables b) s.calls ≡ 0 = omega (arith, split, still, gone) in
    record {
      held = held;
      dropped = dropped;
      users = omega (arith, users-as s b, held, dropped);
      handle = λ i y a own. elim (eqb_tells i h) [
        | inl z ↦ z.1
        | inr z ↦ absurd (let two = count-two (held_by s.tables b) s.handles i h None z.1 (at-some s.handles i y a) l
            (held-at s i y b a own)
            (held-at s h x b at o) in omega (arith, two, held))
      ];
    }

-- a handle that a call borrows and that holds the block of a record
pub record BorrowedFor (s : State) (q : ℕ) : Type 0 where
  pub handle : ℕ
  pub view : Handle
  pub at : handle_at s handle ≡ Some view
  pub owner : owner_of s.tables view ≡ Some (record_at s.tables q).block
  pub lent : is_lent handle s.calls ≡ true

-- a call that has made a record borrows a handle of the record's block
pub ready-borrows : (s : State) (q i : ℕ) (c : Option Pending) → i < length s.calls → call_at s i ≡ c → readies q c ≡ true → FitsCall s c
    → BorrowedFor s q
ready-borrows s q i (Some (Ready part w z)) l at t f =
    let e : q ≡ z = grind (arith, nat_tests, t) in
    record {
      handle = part.handle;
      view = f.view;
      at = f.shares.at;
      owner = f.promised.owner ∙ ap Some (sym f.same ∙ ap (λ (n : ℕ). (record_at s.tables n).block) (sym e));
      lent = list_any_at (borrows_it part.handle) s.calls i None l (rw at (eq-eqb part.handle part.handle refl));
    }
ready-borrows s q i c l at t f = absurd (cc)

-- where the only holder isn't borrowed, no unpublished record is of its block
pub unready : (s : State) (h b q : ℕ) → IsSound s → Only s h b → is_lent h s.calls ≡ false → (record_at s.tables q).block ≡ b
    → hidden s.calls q ≡ 0
unready s h b q k one free e = count-none (readies q) None s.calls (λ j l t.
    let y = ready-borrows s q j (call_at s j) l refl t (k.calls_fit j None l) in
    let u = ap (λ (n : ℕ). is_lent n s.calls) (one.handle y.handle y.view y.at (y.owner ∙ ap Some e)) in
    let v = y.lent in cc)

-- no call drops the block
pub undropped : (s : State) (h b i : ℕ) → Only s h b → i < length s.calls → drops_by s.tables b (call_at s i) ≡ true → ⊥
undropped s h b i one l t = let n = one.dropped in omega (arith, count-some (drops_by s.tables b) s.calls i None l t, n)

-- a call that counts on a record has made it, or drops its block, and then the record is shown
pub named : (s : State) (r : ℕ) (c : Option Pending) → FitsCall s c → names r c ≡ true
    → (readies r c ≡ true) ⊎ ((hidden s.calls r ≡ 0) × (drops_by s.tables (record_at s.tables r).block c ≡ true))
named s r (Some (Ready part w q)) f t = let e : r ≡ q = grind (arith, nat_tests, t) in inl (eq-eqb r q e)
named s r (Some (Subtract q)) f t = let e : r ≡ q = grind (arith, nat_tests, t) in
    inr (rw e f.1, eq-eqb (record_at s.tables r).block (record_at s.tables q).block (ap (λ (n : ℕ). (record_at s.tables n).block) e))
named s r (Some (Release q)) f t = let e : r ≡ q = grind (arith, nat_tests, t) in
    inr (rw e f.shown, eq-eqb (record_at s.tables r).block (record_at s.tables q).block (ap (λ (n : ℕ). (record_at s.tables n).block) e))
named s r c f t = absurd (cc)

-- ---- a record that counts one is named once

-- no call counts on the record, and no handle but this one goes by it
pub record NamedOnce (s : State) (h r : ℕ) : Type 0 where
  pub calls : (i : ℕ) → i < length s.calls → names r (call_at s i) ≡ true → ⊥
  pub handles : (i : ℕ) (y : Handle) → handle_at s i ≡ Some y → y.word ≡ Counted r → i ≡ h

-- Another handle, and a drop that hasn't let go, would be a holder more than the one that is counted; a clone or slice that
-- is to be counted there borrows the handle. So the record can be freed while the block lives on.
pub named-once : (s : State) (h r : ℕ) (x : Handle) → IsSound s → handle_at s h ≡ Some x → x.word ≡ Counted r
    → holders (reading s) (record_at s.tables r).block ≡ 1 → NamedOnce s h r
named-once s h r x k at xw one =
    let f = counted-at s h x r k at xw in
    let me = only s h (record_at s.tables r).block x k at (owner-counted s.tables x r xw) one in
    record {
      calls = λ i l t. elim (named s r (call_at s i) (k.calls_fit i None l) t) [
        | inl e ↦ omega (arith, f.shown, count-some (readies r) s.calls i None l e)
        | inr e ↦ undropped s h (record_at s.tables r).block i me l e.1
      ];
      handles = λ i y a yw. me.handle i y a (owner-counted s.tables y r yw);
    }

-- every other live record that a call counts on stays live
pub calls-live : (s : State) (h r q i : ℕ) → NamedOnce s h r → i < length s.calls → names q (call_at s i) ≡ true
    → (record_at s.tables q).live ≡ true
    → (record_at (tables_without s.tables r) q).live ≡ true
calls-live s h r q i once l t live = dead-other s.tables r q (λ e. once.calls i l (rw e at t)) ∙ live

-- every other handle fits as before
pub fit-dead : (s : State) (h r i : ℕ) → IsSound s → NamedOnce s h r → i ≢ h → i < length s.handles
    → Fits (tables_without s.tables r) s.calls (handle_at s i)
fit-dead s h r i k once ne l = fit-on s.calls (handle_at s i) (dead-keeps s.tables r)
    (λ x q a w c. (dead-other s.tables r q (λ y. ne (once.handles i x a (w ∙ ap Counted y))) ∙ c.live, c.shown)) (k.fit i None l)
