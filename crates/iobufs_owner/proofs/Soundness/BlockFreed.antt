-- A handle lets its block go, which it holds alone: that is freed at once.
use Rattle.iobufs_owner.proofs.Base.{◌≡◌, ◌≢◌, inl, inr, ℕ, ◌<◌, ◌≤◌, true, false, List, length, set, sym, ◌∙◌, ap, refl, arith, Option, Some, None, length-set, All-set, State, Tables, owner_of, record_at, block_at, handle_at, recovered, triple, holds, holders, users, tally, reading, read_handle, IsSound, Fits, alone, describes, detached_handle, replaced, block_freed, both_freed, tables_without, is_lent, IsLoose, Handle, Mut, Pending, Empty, Descriptor, Counted, count-set, count-some, keeps-self, owner-kept, handles-fit-set, at-some, owner-empty, owner-counted, ne_eqb, eq-eqb, fits-at, alone-at, described-at, counted-at, live-inside, alone-described, describes-described, alone-written, alone-few, block-log-freed, record-log-dead, block-log-room, record-log-room, sound-handles, held_by, calls-fit-kept, Keeps, KeepsLetGo, All, LogsRecords, Record, names, call_at, ◌∷◌, ◌++◌, [], ◌^◌, sized, lent-stays, vec_len, vec_capacity, IsReady, Seen, seen_of, state_of, Swapped, swapped, holders-le-users, swaps-none, swaps-set}
use Rattle.iobufs_owner.proofs.Soundness.RecordFreed.{dead-at, dead-keeps, dead-let_go, dead-live}
use Rattle.iobufs_owner.proofs.Soundness.Alone.{only, unready, undropped, named-once, calls-live, fit-dead}
use Rattle.iobufs_owner.proofs.Soundness.Recovered.{recovered-is}
use Rattle.iobufs_owner.proofs.Soundness.Frame.{sound-framed}
use Rattle.iobufs_owner.specs.declared.owner.Machine.TheInside.{Inside}

-- ---- handles and calls that hold nothing

-- such a handle, or none, holds no block and fits
loose : (g : Tables) (calls : List (Option Pending)) (o : Option Handle) → IsLoose o
    → ((c : ℕ) → holds c (read_handle g o) ≡ false) × Fits g calls o
loose g calls o (inl e) = rw e ((λ c. refl), tt)
loose g calls o (inr e) = rw e (
  (λ c. rw (owner-empty g (detached_handle 0) refl) refl),
  record { no_room = refl; ends = omega arith; no_bytes = λ m. refl },
)

-- ---- a handle that holds its block alone

-- the state after a handle has let block b go, which is freed
abbrev let_go : State → List Record → List ℕ → (h b : ℕ) → Option Handle → State
let_go s rs fr h b o = replaced (record s {
  tables = record s.tables { records = rs };
  freed_blocks = s.freed_blocks ++ triple (block_at s.tables b) ∷ [];
  freed_records = fr;
}) h o

-- a handle that holds its block alone and that no call borrows goes, or is detached, and the block is freed, by records that
-- are kept but for one, which is dead, and of which no other live one is of that block
sound-let-go : (s : State) (h b r : ℕ) (x : Handle) (o : Option Handle) (rs : List Record) (fr : List ℕ) → IsSound s
    → handle_at s h ≡ Some x → is_lent h s.calls ≡ false → owner_of s.tables x ≡ Some b → b < length s.tables.blocks
    → holders (reading s) b ≡ 1 → IsLoose o → length rs ≤ 2 ^ 32
    → Keeps s.tables (record s.tables { records = rs }) → All (KeepsLetGo s.tables (record s.tables { records = rs })) s.calls
    → ((i q : ℕ) → i < length s.calls → names q (call_at s i) ≡ true → (record_at s.tables q).live ≡ true
    → (record_at (record s.tables { records = rs }) q).live ≡ true)
    → ((i : ℕ) → i ≢ h → i < length s.handles → Fits (record s.tables { records = rs }) s.calls (handle_at s i))
    → ((q : ℕ) → q ≢ r → record_at (record s.tables { records = rs }) q ≡ record_at s.tables q)
    → ((record_at (record s.tables { records = rs }) r).live ≡ true → ⊥)
    → ((q : ℕ) → (record_at s.tables q).live ≡ true → q ≢ r → (record_at s.tables q).block ≢ b) → LogsRecords rs fr
    → IsSound (let_go s rs fr h b o)
sound-let-go s h b r x o rs fr k at free ox known one is few e gone live fits kept dead apart log =
    let g : Tables = s.tables in
    let g' : Tables = record s.tables { records = rs } in
    let l = at-some s.handles h x at in
    let (none-held, fits-loose) = loose g' s.calls o is in
    let me = only s h b x k at ox one in
    let next : State = let_go s rs fr h b o in
    let ox' : owner_of g' x ≡ Some b = owner-kept g g' s.calls x e (fits-at s h x k at) ∙ ox in
    let w : Swapped s next (Some x) o None None = swapped k e gone (swaps-set _ h o at l) (swaps-none _) in
    let none : users (reading next) b ≡ 0 = (let z = rw (ox', none-held b, eq-eqb b b refl) at (w.users b) in omega (arith, z, me.users)) in
    let bare : holders (reading next) b ≡ 0 = omega (arith, none, holders-le-users (reading next) b) in
    sound-framed r k refl w (λ d ne. (rw ox' (ne_eqb d b ne), none-held d, refl, refl)) (record {
      size = sized k.size k.size.few_blocks few (rw length-set k.size.few_handles) k.size.few_calls;
      blocks = k.blocks;
      fit = handles-fit-set g' s.calls s.handles h o l fits-loose fits;
      calls_fit = λ others. calls-fit-kept next k refl e live (lent-stays s h o free) gone (λ i q li e.
          others (record_at g q).block (λ j. undropped s h b i me li (rw e (eq-eqb b (record_at g q).block (sym j)))));
      kept = λ q _ ne. (kept q ne, refl);
      apart = λ q live ne i. absurd (apart q live ne i);
      mine = λ live. absurd (dead live);
      known = known;
      one_release = omega (arith, w.releases b, k.one_release b);
      sole = λ z. absurd (omega (arith, z, alone-few next b, bare));
      capped = omega (arith, bare);
      block_log = block-log-freed g b k.blocks known (omega (arith, me.users)) none k.block_log;
      record_log = log;
    })

-- a handle by a descriptor that no call borrows goes, or is detached, and its block is freed: the machine stays sound
pub sound-freed_described : (s : State) (h : ℕ) (x : Handle) (w : ℕ) (o : Option Handle) → IsSound s → handle_at s h ≡ Some x
    → is_lent h s.calls ≡ false → x.word ≡ Descriptor w → IsLoose o → IsSound (replaced (block_freed s (recovered s.tables x w)) h o)
sound-freed_described s h x w o k at free xw is =
    let g : Tables = s.tables in
    let d = described-at s h x w k at xw in
    let b : ℕ = d.block in
    let ox = d.says.owner in
    let sole : alone g b (Some x) ≡ true = alone-described g b x w xw ∙ rw ox (eq-eqb b b refl) in
    let one = alone-at s h x b k at sole in
    let some : 0 < tally (describes g b) s.handles = count-some (describes g b) s.handles h None (at-some s.handles h x at)
    (ap (describes g b) at ∙ describes-described g b x w xw ∙ rw ox (eq-eqb b b refl)) in
    let apart : (q : ℕ) → (record_at g q).live ≡ true → q ≢ length g.records → (record_at g q).block ≢ b = λ q t _ e.
    (let z = unready s h b q k (only s h b x k at ox one) free e in let u = rw e at ((k.counted q t).undescribed z) in omega
    (arith, u, some)) in
    rw (recovered-is s h x w b k at xw ox)
    (sound-let-go s h b (length g.records) x o g.records s.freed_records k at free ox d.says.known one is k.size.few_records (keeps-self g)
    (λ i d l q j t. refl) (λ _ q _ _ t. t) (λ i _ li. k.fit i None li) (λ q _. refl)
    (λ live. omega (arith, live-inside g.records (length g.records) live)) apart k.record_log)

-- ---- by a record

-- in a sound machine with a live record both logs are shorter than their tables
pub counted-ends : (s : State) (r : ℕ) → IsSound s → (record_at s.tables r).live ≡ true
    → (length s.freed_blocks < length s.tables.blocks) × (length s.freed_records < length s.tables.records)
counted-ends s r k live = let c = k.counted r live in (
  block-log-room (record_at s.tables r).block c.known c.used k.block_log,
  record-log-room r (live-inside s.tables.records r live) live k.record_log,
)

-- so in such a machine both logs have memory for an entry more
pub logs-room : {m : Inside} {n : Seen} (r : ℕ) → IsReady m → seen_of m ≡ n → (record_at n.state.tables r).live ≡ true
    → (vec_len m.freed_blocks < vec_capacity m.freed_blocks) × (vec_len m.freed_records < vec_capacity m.freed_records)
logs-room {m} r k e live =
    let l = counted-ends (state_of m) r k.sound (rw (← e) at live) in
    (omega (arith, l.0, k.block_room), omega (arith, l.1, k.record_room))

-- a writable handle by a record that no call borrows goes, or is detached, and block and record are freed: the machine stays sound
pub sound-freed_counted : (s : State) (h : ℕ) (x : Handle) (r : ℕ) (o : Option Handle) → IsSound s → handle_at s h ≡ Some x
    → is_lent h s.calls ≡ false → x.kind ≡ Mut → x.word ≡ Counted r → IsLoose o → IsSound (replaced (both_freed s r) h o)
sound-freed_counted s h x r o k at free xm xw is =
    let g : Tables = s.tables in
    let f = counted-at s h x r k at xw in
    let b : ℕ = (record_at s.tables r).block in
    let ox = owner-counted g x r xw in
    let inside = live-inside g.records r f.live in
    let one = alone-at s h x b k at (alone-written g b x r xw xm ∙ rw ox (eq-eqb b b refl)) in
    let me = only s h b x k at ox one in
    let once = named-once s h r x k at xw one in
    sound-let-go s h b r x o (tables_without g r).records _ k at free ox f.known one is (rw length-set k.size.few_records) (dead-keeps g r)
    (dead-let_go g r _) (λ i q li m t. calls-live s h r q i once li m t) (λ i ne li. fit-dead s h r i k once ne li)
    (dead-at g r) (λ live. (dead-live g r r inside live).1 refl)
    (λ q l n i. n (k.one_record q r l f.live (unready s h b q k me free i) f.shown i)) (record-log-dead r _ inside refl f.live k.record_log)

-- ---- a handle without block is gone

-- a handle without block that no call borrows goes, and the machine stays sound
pub sound-gone_empty : (s : State) (h : ℕ) (x : Handle) → IsSound s → handle_at s h ≡ Some x → is_lent h s.calls ≡ false → x.word ≡ Empty
    → IsSound (replaced s h None)
sound-gone_empty s h x k at free xw =
    let l = at-some s.handles h x at in
    sound-handles s (set s.handles h None) k (rw length-set k.size.few_handles) (All-set (Fits s.tables s.calls) s.handles h None tt k.fit)
    (λ c. let e = rw (at, owner-empty s.tables x xw) at (count-set (held_by s.tables c) s.handles h None None l) in omega (arith, e))
    (λ c. omega (arith, count-set (describes s.tables c) s.handles h None None l))
    (λ c t. k.sole c (omega (arith, t, count-set (alone s.tables c) s.handles h None None l))) (lent-stays s h None free)
