-- The frame of a step: the counts of one block change, and those of all others stay.
use Rattle.iobufs_owner.proofs.Base.{true, All, ArePlaced, Block, Bool, Swapped, Fits, FitsCall, Freed, Handle, IsInSize, IsSound, List, LogsBlocks, LogsRecords, None, Option, Pending, Some, State, Tables, alone, alone-holds, ap, arith, block-log-alike, describes, describes-holds, drops-more, drops_by, eqb_tells, false, false_from_ne_true, fits-fewer, held_by, hidden, holders, inl, inr, length, nat_eq, ne_eqb, reading, record_at, releases, sym, tally, users, ℕ, ◌+◌, ◌<◌, ◌∙◌, ◌≡◌, ◌≢◌, ◌≤◌}

unless : (p q : Bool) → (q ≡ true → p ≡ true) → p ≡ false → q ≡ false
unless p q f e = false_from_ne_true q (λ t. let z = sym (f t) ∙ e in cc)

releases-drops : (g : Tables) (b : ℕ) (c : Option Pending) → releases g b c ≡ true → drops_by g b c ≡ true
releases-drops g b None e = e
releases-drops g b (Some c) e = grind (arith, e)

-- the log of freed blocks stays exact where block b goes on to have users, and the others have those that they had
pub block-log-still : {bs : List Block} {log : List Freed} {used used' : ℕ → ℕ} (b : ℕ) → 0 < used b → 0 < used' b → LogsBlocks bs log used
    → ((c : ℕ) → c ≢ b → used' c ≡ used c) → LogsBlocks bs log used'
block-log-still {bs} {log} {used} {used'} b some some' k others = block-log-alike (λ c _. elim (eqb_tells c b) [
  | inl i ↦ rw i.1 (ne_eqb (used' b) 0 (omega (arith, some')) ∙ sym (ne_eqb (used b) 0 (omega (arith, some))))
  | inr i ↦ ap (λ n. nat_eq n 0) (others c i.1)
]) k

-- record r is of block b, is shown, and counts the block's holders
pub record Counting (t : State) (b r : ℕ) : Type 0 where
  pub block : (record_at t.tables r).block ≡ b
  pub shown : hidden t.calls r ≡ 0
  pub counts : (record_at t.tables r).count ≡ holders (reading t) b
  pub used : 0 < users (reading t) b
  pub undescribed : tally (describes t.tables b) t.handles ≡ 0

-- what fits after a step from s to t, and what then holds of block b and of record r, where only they are counted otherwise
pub record Settled (s t : State) (b r : ℕ) : Type 0 where
  pub size : IsInSize (1 + t.tables.align_bits + t.tables.tail_bits + t.tables.size_bits) t.ceiling (length t.tables.blocks)
      (length t.tables.records) (length t.handles) (length t.calls)
  pub blocks : ArePlaced t.tables.blocks
  pub fit : All (Fits t.tables t.calls) t.handles
  pub calls_fit : ((c : ℕ) → c ≢ b → holders (reading t) c ≡ holders (reading s) c) → All (FitsCall t) t.calls
  pub kept : (q : ℕ) → (record_at t.tables q).live ≡ true → q ≢ r
      → (record_at t.tables q ≡ record_at s.tables q) × (hidden t.calls q ≡ hidden s.calls q)
  pub apart : (q : ℕ) → (record_at s.tables q).live ≡ true → q ≢ r → (record_at s.tables q).block ≡ b
      → (hidden s.calls q ≢ 0) × (0 < users (reading t) b)
  pub mine : (record_at t.tables r).live ≡ true → Counting t b r
  pub known : b < length t.tables.blocks
  pub one_release : tally (releases t.tables b) t.calls ≤ 1
  pub sole : 0 < tally (alone t.tables b) t.handles → holders (reading t) b ≡ 1
  pub capped : holders (reading t) b ≤ t.ceiling + 1
  pub block_log : ((c : ℕ) → c ≢ b → users (reading t) c ≡ users (reading s) c)
      → LogsBlocks t.tables.blocks t.freed_blocks (users (reading t))
  pub record_log : LogsRecords t.tables.records t.freed_records

-- The frame lemma: a step in which no handle or call comes or goes that is of another block than b, and after which this holds of
-- b, keeps the machine sound.
pub sound-framed : {s t : State} {o o' : Option Handle} {c c' : Option Pending} {b : ℕ} (r : ℕ) → IsSound s → t.ceiling ≡ s.ceiling
    → Swapped s t o o' c c' → ((d : ℕ) → d ≢ b → (held_by t.tables d o ≡ false) × (held_by t.tables d o' ≡ false)
    × (drops_by t.tables d c ≡ false) × (drops_by t.tables d c' ≡ false)) → Settled s t b r → IsSound t
sound-framed {s} {t} {o} {o'} {c} {c'} {b} r k same w of d =
    let held : (e : ℕ) → e ≢ b → holders (reading t) e ≡ holders (reading s) e = λ e ne. let (h, h', u, u') = of e ne in
    let z = rw (h, h', unless _ _ (drops-more e _) u, unless _ _ (drops-more e _) u') at (w.holders e) in omega (arith, z) in
    let used : (e : ℕ) → e ≢ b → users (reading t) e ≡ users (reading s) e = λ e ne. let (h, h', u, u') = of e ne in
    let z = rw (h, h', u, u') at (w.users e) in omega (arith, z) in
    let none : (p : Tables → ℕ → Option Handle → Bool) → ((e : ℕ) → p t.tables e o' ≡ true → held_by t.tables e o' ≡ true) → (e : ℕ)
    → e ≢ b → p t.tables e o' ≡ false = λ p f e ne. unless _ _ (f e) (of e ne).1 in
    let alone-on : (q : ℕ) → (record_at t.tables q).live ≡ true → hidden t.calls q ≡ 0 → q ≢ r → (record_at t.tables r).live ≡ true
    → (record_at t.tables q).block ≢ (record_at t.tables r).block = λ q l z ne lr i.
    let e = d.kept q l ne in (d.apart q (rw e.0 at l) ne (rw e.0 at (i ∙ (d.mine lr).block))).0 (sym e.1 ∙ z) in
    record {
      size = d.size;
      blocks = d.blocks;
      fit = d.fit;
      calls_fit = d.calls_fit held;
      one_release = λ e. elim (eqb_tells e b) [
        | inl i ↦ rw i.1 d.one_release
        | inr i ↦ (let z = rw (unless _ _ (releases-drops t.tables e c') (of e i.1).3) at (w.releases e) in omega (arith, z))
      ];
      counted = λ q l. elim (eqb_tells q r) [
        | inl i ↦ rw i.1 (let m = d.mine (rw i.1 at l) in record {
          known = rw m.block d.known;
          one_maker = omega (arith, m.shown);
          counts = λ z. rw m.block m.counts;
          fresh = λ z. absurd (omega (arith, z, m.shown));
          used = rw m.block m.used;
          undescribed = λ z. rw m.block m.undescribed;
        })
        | inr i ↦
            let e = d.kept q l i.1 in
            let lq = rw e.0 at l in
            let m = k.counted q lq in
            rw (e.0, e.1) (elim (eqb_tells (record_at s.tables q).block b) [
              | inl j ↦ (let u = d.apart q lq i.1 j.1 in record {
                known = rw j.1 d.known;
                one_maker = m.one_maker;
                counts = λ z. absurd (u.0 z);
                fresh = m.fresh;
                used = rw j.1 u.1;
                undescribed = λ z. absurd (u.0 z);
              })
              | inr j ↦ (let z = rw (none describes (λ e. describes-holds _ e o') _ j.1) at (w.describes (record_at s.tables q).block) in
                  rw (held _ j.1, used _ j.1) (fits-fewer m w.longer (omega (arith, z))))
            ])
      ];
      one_record = λ p q lp lq hp hq i. elim (eqb_tells p r) [
        | inl x ↦ elim (eqb_tells q r) [
          | inl y ↦ x.1 ∙ sym y.1
          | inr y ↦ absurd (alone-on q lq hq y.1 (rw x.1 at lp) (sym (rw x.1 at i)))
        ]
        | inr x ↦ elim (eqb_tells q r) [
          | inl y ↦ absurd (alone-on p lp hp x.1 (rw y.1 at lq) (rw y.1 at i))
          | inr y ↦ (let e = d.kept p lp x.1 in let e' = d.kept q lq y.1 in
              k.one_record p q (rw e.0 at lp) (rw e'.0 at lq) (rw e.1 at hp) (rw e'.1 at hq) (rw (e.0, e'.0) at i))
        ]
      ];
      sole = λ e p. elim (eqb_tells e b) [
        | inl i ↦ rw i.1 (d.sole (rw i.1 at p))
        | inr i ↦ (let z = rw (none alone (λ e. alone-holds _ e o') e i.1) at (w.alone e) in held e i.1 ∙ k.sole e (omega (arith, z, p)))
      ];
      capped = λ e. elim (eqb_tells e b) [ inl i ↦ rw i.1 d.capped | inr i ↦ rw (held e i.1, same) (k.capped e) ];
      known_users = λ e p. elim (eqb_tells e b) [
        | inl i ↦ rw i.1 d.known
        | inr i ↦ omega (arith, k.known_users e (rw (used e i.1) at p), w.longer)
      ];
      block_log = d.block_log used;
      record_log = d.record_log;
    }
