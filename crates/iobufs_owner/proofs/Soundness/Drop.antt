-- A drop begins: the handle of a counted block is gone, and its call holds in its place.
use Rattle.iobufs_owner.proofs.Base.{◌≡◌, inl, inr, ℕ, ◌+◌, ◌<◌, ◌≤◌, true, false, cond, length, get_or, set, sym, ◌∙◌, ap, refl, arith, Bool, nat_eq, Some, None, length-set, nat_tests, eqb_tells, State, Tables, record_at, handle_at, call_at, Dropping, holders, tally, reading, read_call, has_let_go, state_without, called, is_lent, IsSound, FitsCall, hidden, readies, releases, Handle, View, Pending, Subtract, Release, Counted, keeps-self, calls-fit-set, handles-fit-set, at-some, owner-counted, ne_eqb, eq-eqb, fits-fewer, count-none, fit-on, sound-same, list_any_at, borrows_it, call-kept, lent-stays, Swapped, swapped, swaps-set}
use Rattle.iobufs_owner.proofs.Soundness.AddHolder.{release-elsewhere}

abbrev pub dropping : State → ℕ → ℕ → Pending → State
dropping s p h c = called (state_without s h) p (Some c)

-- the call of a drop that hasn't let go
pub record IsDrop (s : State) (r : ℕ) (c : Pending) : Type 0 where
  pub left : ℕ
  pub reads : read_call s.tables (Some c) ≡ Some (Dropping (record_at s.tables r).block false left)
  pub hides : (q : ℕ) → readies q (Some c) ≡ false
  pub fits : (t : State) → t.tables ≡ s.tables → ((q : ℕ) → hidden t.calls q ≡ hidden s.calls q)
      → holders (reading t) (record_at s.tables r).block ≡ holders (reading s) (record_at s.tables r).block → FitsCall t (Some c)
  pub first : (b : ℕ) → tally (releases s.tables b) s.calls + cond (releases s.tables b (Some c)) 1 0 ≤ 1

-- a view by a record that no call borrows goes, and a drop that hasn't let go is the call of a thread that had none: the machine stays
-- sound
pub sound-dropping : (s : State) (p h r : ℕ) (x : Handle) (c : Pending) → IsSound s → handle_at s h ≡ Some x → x.word ≡ Counted r
    → x.kind ≡ View
    → is_lent h s.calls ≡ false → call_at s p ≡ None → p < length s.calls → IsDrop s r c → IsSound (dropping s p h c)
sound-dropping s p h r x c k at word view free none lp d =
    let g : Tables = s.tables in
    let next : State = dropping s p h c in
    let l = at-some s.handles h x at in
    let o = owner-counted g x r word in
    let w : Swapped s next (Some x) None None (Some c) = swapped k (keeps-self g) (λ i d l q j t. refl)
    (swaps-set _ h None at l) (swaps-set _ p (Some c) none lp) in
    let hm : (b : ℕ) → holders (reading next) b ≡ holders (reading s) b =
    λ b. let z = rw (o, d.reads) at (w.holders b) in omega (arith, z) in
    let hid : (q : ℕ) → hidden next.calls q ≡ hidden s.calls q = λ q. let z = rw (d.hides q) at (w.hidden q) in omega (arith, z) in
    sound-same s _ _ _ _ k (rw (length-set, length-set) k.size)
    (handles-fit-set g (set s.calls p (Some c)) s.handles h None l tt
    (λ i _ li. fit-on (set s.calls p (Some c)) (get_or s.handles i None) (keeps-self g) (λ x q _ _ f. (f.live, hid q ∙ f.shown))
    (k.fit i None li)))
    (calls-fit-set s next p (Some c) lp (d.fits next refl hid (hm (record_at g r).block)) (λ i _ lo.
    call-kept next (call_at s i) k (keeps-self g) (λ q j t. refl) (λ q _ t. t) (λ q _ _. hid q)
    (λ j y b. lent-stays s h None free j y (list_any_at (borrows_it j) s.calls i None lo b)) (λ q _. hm (record_at g q).block)) k.calls_fit)
    (λ b. omega (arith, w.releases b, d.first b)) hm (λ b. let z = rw (o, d.reads) at (w.users b) in omega (arith, z))
    (λ q live. rw (hid q) (fits-fewer (k.counted q live) (omega arith) (omega (arith, w.describes (record_at g q).block))))
    (λ q q' a b u v e. k.one_record q q' a b (sym (hid q) ∙ u) (sym (hid q') ∙ v) e)
    (λ b t. k.sole b (omega (arith, w.alone b))) k.record_log

-- beside other holders the drop will subtract
pub drop-subtract : (s : State) (r : ℕ) → IsSound s → (record_at s.tables r).live ≡ true → hidden s.calls r ≡ 0 → IsDrop s r (Subtract r)
drop-subtract s r k live z = record {
  left = 2;
  reads = refl;
  hides = λ q. refl;
  fits = λ t e hid n. (ap (λ (g : Tables). (record_at g r).live) e ∙ live, hid r ∙ z);
  first = λ b. omega (arith, k.one_release b);
}

-- alone it will release
pub drop-release : (s : State) (h r : ℕ) (x : Handle) → IsSound s → handle_at s h ≡ Some x → x.word ≡ Counted r
    → (record_at s.tables r).live ≡ true
    → hidden s.calls r ≡ 0 → (record_at s.tables r).count ≡ 1 → IsDrop s r (Release r)
drop-release s h r x k at word live z one =
    let b : ℕ = (record_at s.tables r).block in
    let o = owner-counted s.tables x r word in
    let n = (k.counted r live).counts z in
    let still : has_let_go s.tables r ≡ false = ne_eqb (record_at s.tables r).count 0 (omega (arith, one)) in
    let none = count-none (releases s.tables b) None s.calls
    (λ i l t. release-elsewhere s h b i x k at o l t) in
    record {
      left = 1;
      reads = rw still refl;
      hides = λ q. refl;
      fits = λ t e hid m. record {
        live = ap (λ (g : Tables). (record_at g r).live) e ∙ live;
        shown = hid r ∙ z;
        alone = rw (ap (λ (g : Tables). has_let_go g r) e ∙ still)
            (ap (λ (g : Tables). holders (reading t) (record_at g r).block) e ∙ m ∙ sym n ∙ one);
      };
      first = λ c. elim (eqb_tells c b) [
        | inl i ↦ rw (i.1, none, eq-eqb b b refl) (omega arith)
        | inr i ↦ rw (ne_eqb c b i.1) (omega (arith, k.one_release c))
      ];
    }

-- the call of a drop, by the count that was loaded
pub drop-after : (s : State) (h r : ℕ) (x : Handle) (v : Bool) → IsSound s → handle_at s h ≡ Some x → x.word ≡ Counted r
    → (record_at s.tables r).live ≡ true → hidden s.calls r ≡ 0 → nat_eq (record_at s.tables r).count 1 ≡ v
    → IsDrop s r (cond v (Release r) (Subtract r))
drop-after s h r x true k at word live z e = drop-release s h r x k at word live z (grind (arith, nat_tests, e))
drop-after s h r x false k at word live z e = drop-subtract s r k live z
