-- A clone or slice has loaded a descriptor and makes a record, which nothing shows yet.
use Rattle.iobufs_owner.proofs.Base.{◌≡◌, inl, inr, ℕ, ◌+◌, ◌^◌, ◌<◌, ◌==◌, true, cond, length, set, sym, ◌∙◌, ap, subst, refl, arith, Option, Some, None, length-append, length-set, State, Tables, record_at, call_at, holders, reading, IsSound, IsLoading, SpeaksOf, hidden, called, with_record, part, Record, Share, Pending, Loaded, Ready, owner-kept, shares-kept, promised-kept, calls-fit-set, at-some, ne_eqb, eq-eqb, fits-at, live-inside, owner-used, record-log-more, sized, all-fit-on, sound-same, call-kept, Swapped, swapped, swaps-none, swaps-set, fits-fewer}
use Rattle.iobufs_owner.proofs.Soundness.NewRecord.{recorded, recorded-new, recorded-keeps, recorded-let_go, recorded-live, recorded-either, unhidden-next}

-- a clone or slice that has loaded a descriptor of a block makes a record of it that counts two, where there were fewer than 2^32: the
-- machine stays sound
pub sound-readied : (s : State) (p : ℕ) (k : Share) (w b : ℕ) → IsSound s → call_at s p ≡ Some (Loaded k w) → (l : IsLoading s k w)
    → l.block ≡ b
    → length s.tables.records < 2 ^ 32 → IsSound (called (with_record s 2 b) p (Some (Ready k w (length s.tables.records))))
sound-readied s p part w b k at ld same few =
    let g : Tables = s.tables in
    let promised : SpeaksOf s.tables ld.view w b = subst (λ (n : ℕ). SpeaksOf s.tables ld.view w n) same ld.promised in
    let r : ℕ = length s.tables.records in
    let g' : Tables = recorded s.tables 2 b in
    let c : Option Pending = Some (Ready part w (length s.tables.records)) in
    let next : State = called (with_record s 2 b) p (Some (Ready part w (length s.tables.records))) in
    let l = at-some s.calls p (Loaded part w) at in
    let e = recorded-keeps g 2 b in
    let new = recorded-new g 2 b in
    let known : b < length g.blocks = promised.says.known in
    let v : Swapped s next None None (Some (Loaded part w)) c =
    swapped k e (recorded-let_go g 2 b _) (swaps-none _) (swaps-set _ p c at l) in
    let hm : (d : ℕ) → holders (reading next) d ≡ holders (reading s) d = λ d. omega (arith, v.holders d) in
    let hid : (q : ℕ) → hidden (set s.calls p c) q ≡ hidden s.calls q + cond (q == r) 1 0 = λ q. omega (arith, v.hidden q) in
    let old : (q : ℕ) → q < length g.records → hidden (set s.calls p c) q ≡ hidden s.calls q =
    λ q m. (let n = rw (ne_eqb q (length s.tables.records) (omega arith)) at (hid q) in omega (arith, n)) in
    let one : hidden (set s.calls p c) r ≡ 1 = (let z = rw (eq-eqb r r refl) at (hid r) in omega (arith, z, unhidden-next s k)) in
    let was : (q : ℕ) → (record_at g' q).live ≡ true → hidden (set s.calls p c) q ≡ 0
    → (record_at g' q ≡ record_at g q) × (hidden s.calls q ≡ 0) = λ q t z. elim (recorded-either g 2 b q t) [
      | inl u ↦ (u.1, sym (old q u.0) ∙ z)
      | inr i ↦ absurd (let n = rw i at z in omega (arith, n, one))
    ] in
    sound-same s _ _ _ _ k (sized k.size k.size.few_blocks (rw length-append (omega arith)) k.size.few_handles
    (rw length-set k.size.few_calls))
    (all-fit-on (set s.calls p c) s.handles e
    (λ _ q x _ _ f. (recorded-live g 2 b q f.live, old q (live-inside g.records q f.live) ∙ f.shown)) k.fit)
    (calls-fit-set s next p c l (record {
      view = ld.view;
      shares = shares-kept s next part ld.view (λ a. a) ld.shares;
      block = b;
      promised = promised-kept g g' ld.view w b e (owner-kept g g' s.calls ld.view e
          (fits-at s part.handle ld.view k ld.shares.at)) promised;
      live = ap (λ (v : Record). v.live) new;
      same = ap (λ (v : Record). v.block) new;
    }) (λ i _ lo. call-kept next (call_at s i) k e (recorded-let_go g 2 b _ i None lo) (λ n _. recorded-live g 2 b n)
    (λ n _ t. old n (live-inside g.records n t)) (λ _ _ _ a. a) (λ n _. hm (record_at g n).block)) k.calls_fit)
    (λ d. omega (arith, v.releases d, k.one_release d)) hm (λ d. omega (arith, v.users d))
    (λ q t. elim (recorded-either g 2 b q t) [
      | inl u ↦ rw (u.1, old q u.0) (fits-fewer (k.counted q (rw u.1 at t)) (omega arith)
          (omega (arith, v.describes (record_at g q).block)))
      | inr i ↦ rw (i, new) (record {
        known = known;
        one_maker = omega (arith, one);
        counts = λ z. absurd (omega (arith, z, one));
        fresh = λ z. refl;
        used = owner-used s part.handle ld.view b ld.shares.at promised.owner;
        undescribed = λ z. absurd (omega (arith, z, one));
      })
    ])
    (λ q q' t t' z z' i. let u = was q t z in let u' = was q' t' z' in
    k.one_record q q' (rw u.0 at t) (rw u'.0 at t') u.1 u'.1 (rw (u.0, u'.0) at i))
    (λ d t. k.sole d (omega (arith, v.alone d, t))) (record-log-more _ refl k.record_log)
