-- A drop lets go: the count shrinks by one.
use Rattle.iobufs_owner.proofs.Base.{◌≡◌, ◌≢◌, inl, inr, ℕ, ◌+◌, ◌-◌, ◌<◌, ◌==◌, true, false, cond, length, set, sym, ◌∙◌, ap, refl, arith, All, Option, Some, None, nat_eq, length-set, All-from_get_or, eqb_tells, State, Tables, record_at, call_at, holders, users, reading, has_let_go, IsSound, FitsCall, hidden, readies, releases, Pending, Subtract, Release, count-some, holders-le-users, KeepsLetGo, calls-fit-set, at-some, ne_eqb, eq-eqb, counted, with_count, called, live-inside, record-log-counted, holders-as, still_by, drops_by, call-fits, count-none, all-fit-on, call-kept, alone-few, Swapped, swapped, swaps-none, swaps-set, Record, count-set, get_or-set_other, release-alone}
use Rattle.iobufs_owner.proofs.Soundness.AddHolder.{counted-keeps, counted-block, counted-live, counted-same, counted-rest}
use Rattle.iobufs_owner.proofs.Soundness.Frame.{block-log-still, sound-framed}

-- the call after a subtraction from count n: `Release` if n is 1, else none
abbrev pub afterwards : ℕ → ℕ → Option Pending
afterwards r n = cond (n == 1) (Some (Release r)) None

abbrev pub subtracted : State → ℕ → ℕ → State
subtracted s p r = called (with_count s r ((record_at s.tables r).count - 1)) p (afterwards r (record_at s.tables r).count)

-- a property of a release if n is 1, and else of no call, is one of the call afterwards
afterwards-by : (P : Option Pending → Type 0) (r n : ℕ) → (n ≡ 1 → P (Some (Release r))) → (n ≢ 1 → P None) → P (afterwards r n)
afterwards-by P r n some none = elim (eqb_tells n 1) [ inl i ↦ rw i.0 (some i.1) | inr i ↦ rw i.0 (none i.1) ]

-- no call releases a block that another drop holds
none-release : (s : State) (p r i : ℕ) → IsSound s → call_at s p ≡ Some (Subtract r) → i < length s.calls
    → releases s.tables (record_at s.tables r).block (call_at s i) ≡ true → ⊥
none-release s p r i k at l t =
    let b : ℕ = (record_at s.tables r).block in
    let other : p ≢ i = λ j. (let z = rw (← j, at) at t in cc) in
    let one = count-some (still_by s.tables b) (set s.calls i None) p None (rw length-set (at-some s.calls p (Subtract r) at))
    (rw (get_or-set_other s.calls i p None None other, at) (eq-eqb b b refl)) in
    let drop = count-set (still_by s.tables b) s.calls i None None l in
    omega (arith, holders-as s b, one, drop, release-alone s b (call_at s i) (k.calls_fit i None l) t)

-- so another count for that block's record leaves each call that frees a record as it was
pub counted-drops : (s : State) (p r n : ℕ) → IsSound s → call_at s p ≡ Some (Subtract r)
    → All (KeepsLetGo s.tables (counted s.tables r n)) s.calls
counted-drops s p r n k at =
    All-from_get_or (KeepsLetGo s.tables (counted s.tables r n)) s.calls None
    (λ i l q e live. ap (λ (m : ℕ). nat_eq m 0)
    (ap (λ (v : Record). v.count) (counted-rest s.tables r n q (λ same. none-release s p r i k at l
    (rw e (eq-eqb (record_at s.tables r).block (record_at s.tables q).block (ap (λ (m : ℕ). (record_at s.tables m).block) (sym same))))))))

-- it is the last holder's drop that goes on, and its record counts none then
pub gone-after : (g : Tables) (r : ℕ) → r < length g.records → (record_at g r).count ≡ 1
    → has_let_go (counted g r ((record_at g r).count - 1)) r ≡ true
gone-after g r inside one = eq-eqb (record_at (counted g r ((record_at g r).count - 1)) r).count 0
    (counted-same g r ((record_at g r).count - 1) inside ∙ omega (arith, one))

-- a drop lowers the count by one, and is over, or has to free where it was the last: the machine stays sound
pub sound-subtracted : (s : State) (p r : ℕ) → IsSound s → call_at s p ≡ Some (Subtract r) → IsSound (subtracted s p r)
sound-subtracted s p r k at =
    let g : Tables = s.tables in
    let n : ℕ = (record_at s.tables r).count in
    let g' : Tables = counted s.tables r ((record_at s.tables r).count - 1) in
    let b : ℕ = (record_at s.tables r).block in
    let next : State = subtracted s p r in
    let y : Option Pending = afterwards r (record_at s.tables r).count in
    let l = at-some s.calls p (Subtract r) at in
    let f = call-fits s p (Subtract r) k at in
    let me = k.counted r f.0 in
    let is : n ≡ holders (reading s) b = me.counts f.1 in
    let e = counted-keeps g r (n - 1) in
    let gone = counted-drops s p r (n - 1) k at in
    let bb = counted-block g r (n - 1) r in
    let inside = live-inside g.records r f.0 in
    let w : Swapped s next None None (Some (Subtract r)) y = swapped k e gone (swaps-none _) (swaps-set _ p y at l) in
    let still = afterwards-by (λ y. still_by g' b y ≡ false) r n (λ one. rw (gone-after g r inside one) refl) (λ _. refl) in
    let fewer : holders (reading next) b + 1 ≡ n = (let z = rw (bb, still, eq-eqb b b refl) at (w.holders b) in omega (arith, z, is)) in
    let some : 0 < users (reading next) b = elim (eqb_tells n 1) [
      | inl i ↦ (let drop : drops_by g' b y ≡ true = rw (i.0, bb) (eq-eqb b b refl) in
          let z = rw (drop, bb, eq-eqb b b refl) at (w.users b) in omega (arith, z, me.used))
      | inr i ↦ (let ne = i.1 in omega (arith, fewer, ne, holders-le-users (reading next) b))
    ] in
    let hid : (q : ℕ) → hidden (set s.calls p y) q ≡ hidden s.calls q = λ q.
    let z = rw (afterwards-by (λ y. readies q y ≡ false) r n (λ _. refl) (λ _. refl)) at (w.hidden q) in omega (arith, z) in
    let never : (i : ℕ) → i < length s.calls → releases g b (call_at s i) ≡ true → ⊥ =
    λ i lo t. none-release s p r i k at lo t in
    let ends : (d : ℕ) → d ≢ b → drops_by g' d y ≡ false =
    λ d ne. afterwards-by (λ y. drops_by g' d y ≡ false) r n (λ _. rw bb (ne_eqb d b ne)) (λ _. refl) in
    sound-framed r k refl w (λ d ne. (refl, refl, rw bb (ne_eqb d b ne), ends d ne)) (record {
      size = rw (length-set, length-set) k.size;
      blocks = k.blocks;
      fit = all-fit-on (set s.calls p y) s.handles e (λ _ q x _ _ f. (counted-live g r (n - 1) q ∙ f.live, hid q ∙ f.shown)) k.fit;
      calls_fit = λ others. calls-fit-set s next p y l (afterwards-by (FitsCall next) r n (λ one. record {
        live = counted-live g r (n - 1) r ∙ f.0;
        shown = hid r ∙ f.1;
        alone = rw (gone-after g r inside one, bb) (omega (arith, one, fewer));
      }) (λ _. tt)) (λ i _ lo. call-kept next (call_at s i) k e (gone i None lo) (λ q _ t. counted-live g r (n - 1) q ∙ t) (λ q _ _. hid q)
          (λ _ _ _ a. a) (λ q j. others (record_at g q).block (λ x. never i lo (rw j (eq-eqb b _ (sym x)))))) k.calls_fit;
      kept = λ q _ ne. (counted-rest g r (n - 1) q ne, hid q);
      apart = λ q live ne i. (λ z. ne (k.one_record q r live f.0 z f.1 i), some);
      mine = λ _. record {
        block = bb;
        shown = hid r ∙ f.1;
        counts = counted-same g r (n - 1) inside ∙ omega (arith, fewer);
        used = some;
        undescribed = omega (arith, w.describes b, me.undescribed f.1);
      };
      known = me.known;
      one_release = grind (arith, w.releases b, count-none (releases g b) None s.calls never);
      sole = λ z. absurd (omega (arith, z, alone-few next b, fewer, is, w.alone b, k.sole b (omega (arith, w.alone b, z))));
      capped = omega (arith, fewer, is, k.capped b);
      block_log = block-log-still b me.used some k.block_log;
      record_log = record-log-counted r _ inside refl k.record_log;
    })

-- a drop that lets go finds a count that isn't 0
pub record IsLettingGo (s : State) (r : ℕ) : Type 0 where
  pub live : (record_at s.tables r).live ≡ true
  pub shown : hidden s.calls r ≡ 0
  pub some : 0 < (record_at s.tables r).count

-- in a sound machine the record that a drop has to lower is live and published, and counts at least one
pub letting-go : (s : State) (p r : ℕ) → IsSound s → call_at s p ≡ Some (Subtract r) → IsLettingGo s r
letting-go s p r k at =
    let lp = at-some s.calls p (Subtract r) at in
    let f = call-fits s p (Subtract r) k at in
    let b : ℕ = (record_at s.tables r).block in
    let h = holders-as s b in
    let one = count-some (still_by s.tables b) s.calls p None lp (rw at (eq-eqb b b refl)) in
    let n = (k.counted r f.0).counts f.1 in
    record { live = f.0; shown = f.1; some = omega (arith, h, one, n) }
