-- A sound machine keeps what is promised.
use Rattle.iobufs_owner.proofs.Base.{◌≡◌, inl, inr, ℕ, ◌<◌, ◌≤◌, true, false, not, length, get_or, None, ap, sym, ◌∙◌, refl, arith, eqb_tells, All-get_or, All-from_get_or, State, record_at, users, reading, IsSound, is_logged, hidden, readies, Promises, IsFreed, IsOver, holders-le-users, count-find, alone-at, described-at, eq-eqb, held_by, drops_by, users-as, logged-at, eqb-true, count-none, cases_Bool}
use Rattle.iobufs_owner.proofs.Soundness.Recovered.{recovered-is}
use Rattle.iobufs_owner.proofs.Soundness.NewRecord.{ready-live}

none-freed : (s : State) (b : ℕ) → IsSound s → b < length s.tables.blocks → users (reading s) b ≡ 0 → IsFreed s b
none-freed s b k l e = record { known = l; logged = k.block_log.freed b l ∙ rw e refl }

freed-none : (s : State) (b : ℕ) → IsSound s → IsFreed s b → users (reading s) b ≡ 0
freed-none s b k f = eqb-true (users (reading s) b) 0 (sym (k.block_log.freed b f.known) ∙ f.logged)

-- a record whose block nobody uses is logged
dead-logged : (s : State) (r : ℕ) → IsSound s → r < length s.tables.records → users (reading s) (record_at s.tables r).block ≡ 0
    → is_logged r s.freed_records ≡ true
dead-logged s r k l f = elim (cases_Bool (record_at s.tables r).live) [
  | inl e ↦ absurd (let u = (k.counted r e).used in omega (arith, u, f))
  | inr e ↦ k.record_log.exact r l ∙ ap not e
]

-- ---- nothing is left
over-none : (s : State) (b : ℕ) → IsOver s → users (reading s) b ≡ 0
over-none s b o = omega (
  arith,
  users-as s b,
  count-none (held_by s.tables b) None s.handles (λ i l t. absurd (let z = rw (o.handles i None l) at t in cc)),
  count-none (drops_by s.tables b) None s.calls (λ i l t. absurd (let z = rw (o.calls i None l) at t in cc)),
)

one-maker : (s : State) (r : ℕ) → IsSound s → hidden s.calls r ≤ 1
one-maker s r k = elim (eqb_tells (hidden s.calls r) 0) [
  | inl e ↦ omega (arith, e.1)
  | inr e ↦ (let q = count-find (readies r) None s.calls (let d = e.1 in omega (arith, d)) in
      (k.counted r (ready-live s r _ q.passes (k.calls_fit q.place None q.inside))).one_maker)
]

-- of a sound machine all that is promised to its users holds
pub promises-of : (s : State) → IsSound s → Promises s
promises-of s k = record {
  counts = λ r p. (k.counted r p.live).counts p.shown;
  one_record = λ q r p t e. k.one_record q r p.live t.live p.shown t.shown e;
  one_maker = λ r. one-maker s r k;
  exclusive = λ h b x at o e. alone-at s h x b k at (rw (o, eq-eqb b b refl) e);
  recovered = λ h w x at i. (let d = described-at s h x w k at i in
      (d.block, d.says.known, d.says.owner, recovered-is s h x w d.block k at i d.says.owner));
  blocks_once = k.block_log.once;
  records_once = k.record_log.once;
  blocks_known = k.block_log.known;
  records_known = All-from_get_or (λ r. (r < length s.tables.records) × ((record_at s.tables r).live ≡ false)) s.freed_records 0
      (λ i l. (let q = get_or s.freed_records i 0 in let n : q < length s.tables.records =
      All-get_or (λ r. r < length s.tables.records) s.freed_records i 0 l k.record_log.known in
      (n, grind (arith, k.record_log.exact q n, logged-at s.freed_records i 0 l))));
  never_held = λ b f. (let u = freed-none s b k f in let m = holders-le-users (reading s) b in omega (arith, u, m));
  unused_freed = λ b l e. none-freed s b k l e;
  records_freed = λ r l f. dead-logged s r k l (freed-none s (record_at s.tables r).block k f);
  none_left = λ o. (λ b l. none-freed s b k l (over-none s b o), λ r l. dead-logged s r k l (over-none s (record_at s.tables r).block o));
  capped = k.capped;
}
