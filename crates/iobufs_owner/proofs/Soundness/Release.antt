-- The last step of a drop: record and block are freed.
use Rattle.iobufs_owner.proofs.Base.{◌≡◌, ◌≢◌, inl, inr, ℕ, ◌<◌, ◌==◌, true, false, length, set, sym, ◌∙◌, ap, refl, arith, Option, Some, None, length-set, eqb_tells, State, Tables, owner_of, record_at, handle_at, call_at, holds, holders, users, drops, tally, reading, read_handle, read_call, has_let_go, tables_without, both_freed, called, IsSound, hidden, readies, releases, Handle, Pending, Release, count-some, count-less, count-most, count-two, count-find, count-sum, holders-le-users, calls-fit-set, at-some, owner-counted, ne_eqb, eq-eqb, live-inside, held_by, still_by, drops_by, holders-as, users-as, lets_go, drops-split, go-releases, block-log-freed, record-log-dead, and_right, call-fits, all-fit-on, call-kept, cases_Bool, Swapped, alone-few, swapped, swaps-none, swaps-set}
use Rattle.iobufs_owner.proofs.Soundness.RecordFreed.{dead-at, dead-block, dead-other, dead-keeps, dead-let_go, dead-live}
use Rattle.iobufs_owner.proofs.Soundness.Alone.{named, ready-borrows}
use Rattle.iobufs_owner.proofs.Soundness.Frame.{sound-framed}

abbrev pub released : State → ℕ → ℕ → State
released s p r = called (both_freed s r) p None

-- a drop that releases is the last user of its block
pub record Last (s : State) (b : ℕ) : Type 0 where
  pub none : tally (λ (o : Option Handle). holds b (read_handle s.tables o)) s.handles ≡ 0
  pub one : tally (λ (c : Option Pending). drops b (read_call s.tables c)) s.calls ≡ 1
  pub users : users (reading s) b ≡ 1

pub release-last : (s : State) (p r : ℕ) → IsSound s → call_at s p ≡ Some (Release r) → Last s (record_at s.tables r).block
release-last s p r k at =
    let b : ℕ = (record_at s.tables r).block in
    let l = at-some s.calls p (Release r) at in
    let f = rw at at (k.calls_fit p None l) in
    let h = holders-as s b in
    let n = f.alone in
    let u = users-as s b in
    let split = count-sum (drops_by s.tables b) (still_by s.tables b) (lets_go s.tables b) s.calls (drops-split s.tables b) in
    let ones = k.one_release b in
    let here = count-some (releases s.tables b) s.calls p None l (rw at (eq-eqb b b refl)) in
    elim (cases_Bool (has_let_go s.tables r)) [
      | inl e ↦ (let n1 = rw e at n in
          let go = count-most (releases s.tables b) (lets_go s.tables b) s.calls (go-releases s.tables b) in
          let some = count-some (lets_go s.tables b) s.calls p None l (rw (at, e, eq-eqb b b refl) refl) in
          record { none = omega arith; one = omega arith; users = omega arith })
      | inr e ↦ (let n1 = rw e at n in
          let some = count-some (still_by s.tables b) s.calls p None l (rw (at, e) (eq-eqb b b refl)) in
          let go = count-less (releases s.tables b) (lets_go s.tables b) s.calls p None (go-releases s.tables b) l (rw at (eq-eqb b b refl))
          (rw (at, e) (and_right (b == b) false refl)) in
          record { none = omega arith; one = omega arith; users = omega arith })
    ]

none-holds : (s : State) (b i : ℕ) (x : Handle) → tally (held_by s.tables b) s.handles ≡ 0 → handle_at s i ≡ Some x
    → owner_of s.tables x ≢ Some b
none-holds s b i x z at o =
    let t = count-some (held_by s.tables b) s.handles i None (at-some s.handles i x at) (rw (at, o) (eq-eqb b b refl)) in
    omega arith

-- no other call counts on the record, or drops the block
other-drops : (s : State) (p r i b : ℕ) → call_at s p ≡ Some (Release r) → (record_at s.tables r).block ≡ b
    → tally (drops_by s.tables b) s.calls ≡ 1
    → i ≢ p → i < length s.calls → drops_by s.tables b (call_at s i) ≡ true → ⊥
other-drops s p r i b at eb one ne l t =
    let two = count-two (drops_by s.tables b) s.calls i p None ne l (at-some s.calls p (Release r) at) t
    (rw at (eq-eqb b (record_at s.tables r).block (sym eb))) in
    omega (arith, two, one)

other-block : (s : State) (r q : ℕ) → IsSound s → (record_at s.tables r).live ≡ true → hidden s.calls r ≡ 0
    → tally (held_by s.tables (record_at s.tables r).block) s.handles ≡ 0 → (record_at s.tables q).live ≡ true → q ≢ r
    → (record_at s.tables q).block ≢ (record_at s.tables r).block
other-block s r q k lr hr none lq ne e =
    elim (eqb_tells (hidden s.calls q) 0) [
      | inl z ↦ ne (k.one_record q r lq lr z.1 hr e)
      | inr z ↦ (let w = count-find (readies q) None s.calls (let n = z.1 in omega arith) in
          let y = ready-borrows s q w.place (call_at s w.place) w.inside refl w.passes (k.calls_fit w.place None w.inside) in
          none-holds s (record_at s.tables r).block y.handle y.view none y.at (y.owner ∙ ap Some e))
    ]

-- the last step of a drop frees record and block and ends the call, and the machine stays sound
pub sound-released : (s : State) (p r : ℕ) → IsSound s → call_at s p ≡ Some (Release r) → IsSound (released s p r)
sound-released s p r k at =
    let g : Tables = s.tables in
    let g' : Tables = tables_without s.tables r in
    let b : ℕ = (record_at s.tables r).block in
    let next : State = released s p r in
    let l = at-some s.calls p (Release r) at in
    let f = call-fits s p (Release r) k at in
    let last = release-last s p r k at in
    let me = k.counted r f.live in
    let inside = live-inside g.records r f.live in
    let e = dead-keeps g r in
    let bb = dead-block g r r in
    let w : Swapped s next None None (Some (Release r)) None = swapped k e (dead-let_go g r _) (swaps-none _) (swaps-set _ p None at l) in
    let hid : (q : ℕ) → hidden (set s.calls p None) q ≡ hidden s.calls q = λ q. omega (arith, w.hidden q) in
    let none : users (reading next) b ≡ 0 = (let z = rw (bb, eq-eqb b b refl) at (w.users b) in omega (arith, z, last.users)) in
    let bare : holders (reading next) b ≡ 0 = omega (arith, none, holders-le-users (reading next) b) in
    sound-framed r k refl w (λ d ne. (refl, refl, rw bb (ne_eqb d b ne), refl)) (record {
      size = rw (length-set, length-set) k.size;
      blocks = k.blocks;
      fit = all-fit-on (set s.calls p None) s.handles e (λ i q x a w f. (
        dead-other g r q (λ y. none-holds s b i x last.none a
            (owner-counted g x q w ∙ ap (λ (n : ℕ). Some (record_at g n).block) y)) ∙ f.live,
        hid q ∙ f.shown,
      )) k.fit;
      calls_fit = λ others. calls-fit-set s next p None l tt (λ i ne lo. call-kept next (call_at s i) k e (dead-let_go g r _ i None lo)
          (λ q n t. dead-other g r q (λ y. elim (named s r (call_at s i) (k.calls_fit i None lo) (rw y at n)) [
            | inl z ↦ omega (arith, f.shown, count-some (readies r) s.calls i None lo z)
            | inr z ↦ other-drops s p r i b at refl last.one ne lo z.1
          ]) ∙ t) (λ q _ _. hid q) (λ _ _ _ a. a) (λ q y. others (record_at g q).block
          (λ j. other-drops s p r i b at refl last.one ne lo (rw y (eq-eqb b (record_at g q).block (sym j)))))) k.calls_fit;
      kept = λ q _ ne. (dead-at g r q ne, hid q);
      apart = λ q live ne i. absurd (other-block s r q k f.live f.shown last.none live ne i);
      mine = λ live. absurd ((dead-live g r r inside live).1 refl);
      known = me.known;
      one_release = omega (arith, w.releases b, k.one_release b);
      sole = λ z. absurd (omega (arith, z, alone-few next b, bare));
      capped = omega (arith, bare);
      block_log = block-log-freed g b k.blocks me.known me.used none k.block_log;
      record_log = record-log-dead r _ inside refl f.live k.record_log;
    })
