-- A clone or slice loses the race: its record is freed, and the call will add to the winner's.
use Rattle.iobufs_owner.proofs.Base.{◌≡◌, ◌≢◌, ℕ, ◌+◌, ◌<◌, ◌==◌, true, cond, length, set, sym, ◌∙◌, subst, refl, arith, Option, Some, None, length-set, State, Tables, record_at, handle_at, call_at, holders, reading, IsSound, FitsCall, Shares, hidden, readies, called, record_freed, tables_without, Handle, Share, Pending, Ready, Add, Counted, count-two, names, shares-kept, calls-fit-set, at-some, ne_eqb, eq-eqb, live-inside, record-log-dead, call-fits, all-fit-on, sound-same, inl, inr, call-kept, Swapped, swapped, swaps-none, swaps-set, fits-fewer}
use Rattle.iobufs_owner.proofs.Soundness.RecordFreed.{dead-at, dead-block, dead-other, dead-keeps, dead-let_go, dead-live}
use Rattle.iobufs_owner.proofs.Soundness.Alone.{named}
use Rattle.iobufs_owner.proofs.Soundness.Won.{some-same, racing}

-- the unpublished record of a call can be freed: no other thread's call counts on it
not-mine : (s : State) (p r i : ℕ) (k : Share) (w : ℕ) (c : Option Pending) → IsSound s → call_at s p ≡ Some (Ready k w r) → i ≢ p
    → i < length s.calls → call_at s i ≡ c → FitsCall s c → hidden s.calls r ≡ 1 → names r c ≡ true → ⊥
not-mine s p r i k w c sd at ne l e f hid t = elim (named s r c f t) [
  | inl z ↦ (let two = count-two (readies r) s.calls i p None ne l (at-some s.calls p (Ready k w r) at) (rw e z)
      (rw at (eq-eqb r r refl)) in
      omega (arith, two, hid))
  | inr z ↦ omega (arith, z.0, hid)
]

-- a clone or slice whose view goes by another record by now frees the one that it made, and is to be counted by the other: the machine
-- stays sound
pub sound-lost : (s : State) (p r w winner : ℕ) (k : Share) (x : Handle) → IsSound s → call_at s p ≡ Some (Ready k w r)
    → handle_at s k.handle ≡ Some x → x.word ≡ Counted winner → IsSound (called (record_freed s r) p (Some (Add k winner)))
sound-lost s p r w winner part' x k at atx xw =
    let g : Tables = s.tables in
    let g' : Tables = tables_without s.tables r in
    let c : Option Pending = Some (Add part' winner) in
    let next : State = called (record_freed s r) p (Some (Add part' winner)) in
    let l = at-some s.calls p (Ready part' w r) at in
    let f = call-fits s p (Ready part' w r) k at in
    let yx : f.view ≡ x = some-same f.view x (sym f.shares.at ∙ atx) in
    let sh : Shares s part' x = subst (λ (y : Handle). Shares s part' y) yx f.shares in
    let inside = live-inside g.records r f.live in
    let e = dead-keeps g r in
    let v : Swapped s next None None (Some (Ready part' w r)) c = swapped k e (dead-let_go g r _) (swaps-none _) (swaps-set _ p c at l) in
    let hidr = (racing s p r w part' k at).once in
    let hm : (d : ℕ) → holders (reading next) d ≡ holders (reading s) d = λ d. omega (arith, v.holders d) in
    let hid : (q : ℕ) → hidden (set s.calls p c) q + cond (q == r) 1 0 ≡ hidden s.calls q = λ q. omega (arith, v.hidden q) in
    let old : (q : ℕ) → q ≢ r → hidden (set s.calls p c) q ≡ hidden s.calls q = λ q ne. (let n = rw (ne_eqb q r ne) at (hid q) in omega
    (arith, n)) in
    sound-same s _ _ _ _ k (rw (length-set, length-set) k.size)
    (all-fit-on (set s.calls p c) s.handles e (λ _ q y _ _ f.
    let ne : q ≢ r = λ i. (let z = rw i at f.shown in omega (arith, z, hidr)) in (dead-other g r q ne ∙ f.live, old q ne ∙ f.shown)) k.fit)
    (calls-fit-set s next p c l (record { view = x; shares = shares-kept s next part' x (λ a. a) sh; word = xw }) (λ i ne lo.
    let never = not-mine s p r i part' w (call_at s i) k at ne lo refl (k.calls_fit i None lo) hidr in
    call-kept next (call_at s i) k e (dead-let_go g r _ i None lo) (λ q n t. dead-other g r q (λ y. never (rw y at n)) ∙ t)
    (λ q n _. old q (λ y. never (rw y at n))) (λ _ _ _ a. a) (λ q _. hm (record_at g q).block)) k.calls_fit)
    (λ d. omega (arith, v.releases d, k.one_release d)) hm (λ d. omega (arith, v.users d))
    (λ q t.
    let d = dead-live g r q inside t in
    rw (dead-at g r q d.1, old q d.1) (fits-fewer (k.counted q d.0) (omega arith) (omega (arith, v.describes (record_at g q).block))))
    (λ q q' tq tq' hq hq' i.
    let d = dead-live g r q inside tq in
    let d' = dead-live g r q' inside tq' in
    k.one_record q q' d.0 d'.0 (sym (old q d.1) ∙ hq) (sym (old q' d'.1) ∙ hq') (sym (dead-block g r q) ∙ i ∙ dead-block g r q'))
    (λ d t. k.sole d (omega (arith, v.alone d, t))) (record-log-dead r _ inside refl f.live k.record_log)
