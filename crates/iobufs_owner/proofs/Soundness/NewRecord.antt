-- A new record keeps the machine sound: for a new block, and in the place of a descriptor.
use Rattle.iobufs_owner.proofs.Base.{frozen-lies, ◌≡◌, ℕ, ◌^◌, ◌<◌, ◌⊎◌, inl, inr, true, false, [], ◌∷◌, ◌++◌, length, sym, ◌∙◌, ap, subst, refl, arith, Option, Some, None, nat_eq, length-append, length-set, All-set, get_or_append_left, get_or-append_seam, nat_tests, State, Tables, owner_of, record_at, block_at, holders, users, is_block, reading, IsSound, Fits, FitsWord, FitsCall, LiesIn, hidden, readies, with_block, with_record, with_handle, edited, next_record, Lends, frozen, IsGoodPlace, Block, Record, Handle, Kind, Mut, Pending, Ready, Word, Descriptor, Counted, Keeps, calls-kept, owner-kept, at-some, owner-counted, holders-le-users, grown, grown-keeps, eq-eqb, fits-at, live-inside, described-at, alone-at, alone-described, describes-counted, describes-few, no_record, below-or, record-log-more, sized, call_at, count-none, all-fit-on, keeps-records, lent-stays, Swapped, swapped, ne_eqb, part, swaps-none, swaps-set, All, KeepsLetGo, List}
use Rattle.iobufs_owner.proofs.Soundness.New.{sound-block}
use Rattle.iobufs_owner.proofs.Soundness.Frame.{block-log-still, sound-framed}

-- ---- one record more

abbrev pub recorded : Tables → ℕ → ℕ → Tables
recorded g n b = record g { records = g.records ++ record { count = n; block = b; live = true } ∷ [] }

pub recorded-old : (g : Tables) (n b r : ℕ) → r < length g.records → record_at (recorded g n b) r ≡ record_at g r
recorded-old g n b r l = get_or_append_left g.records (record { count = n; block = b; live = true } ∷ []) no_record r l

-- the record that is added is live, with its count and its block
pub recorded-new : (g : Tables) (n b : ℕ) → record_at (recorded g n b) (length g.records) ≡ record { count = n; block = b; live = true }
recorded-new g n b = get_or-append_seam g.records (record { count = n; block = b; live = true }) [] no_record

-- tables with a record more keep what live handles and calls speak of
pub recorded-keeps : (g : Tables) (n b : ℕ) → Keeps g (recorded g n b)
recorded-keeps g n b = keeps-records g (recorded g n b).records
    (λ r e. ap (λ (v : Record). v.block) (recorded-old g n b r (live-inside g.records r e)))

-- with a record more the drop of a live one has let go as before
pub recorded-let_go : (g : Tables) (n b : ℕ) (cs : List (Option Pending)) → All (KeepsLetGo g (recorded g n b)) cs
recorded-let_go g n b cs i d l r j e = ap (λ (v : Record). nat_eq v.count 0) (recorded-old g n b r (live-inside g.records r e))

-- with a record more each live one is live
pub recorded-live : (g : Tables) (n b r : ℕ) → (record_at g r).live ≡ true → (record_at (recorded g n b) r).live ≡ true
recorded-live g n b r e = ap (λ (v : Record). v.live) (recorded-old g n b r (live-inside g.records r e)) ∙ e

-- a live record is an old one or the new one
pub recorded-either : (g : Tables) (n b r : ℕ) → (record_at (recorded g n b) r).live ≡ true
    → ((r < length g.records) × (record_at (recorded g n b) r ≡ record_at g r)) ⊎ (r ≡ length g.records)
recorded-either g n b r e =
    let l = live-inside (recorded g n b).records r e in
    elim (below-or r (length g.records) (rw length-append at l)) [ inl m ↦ inl (m, recorded-old g n b r m) | inr m ↦ inr m ]

-- an unpublished record is live
pub ready-live : (s : State) (r : ℕ) (c : Option Pending) → readies r c ≡ true → FitsCall s c → (record_at s.tables r).live ≡ true
ready-live s r (Some (Ready part w q)) t f =
    let e : r ≡ q = grind (arith, nat_tests, t) in
    ap (λ (n : ℕ). (record_at s.tables n).live) e ∙ f.live
ready-live s r c t f = absurd (cc)

-- a number that isn't given yet is no unpublished record
pub unhidden-next : (s : State) → IsSound s → hidden s.calls (next_record s) ≡ 0
unhidden-next s k = count-none (readies (next_record s)) None s.calls (λ i l t.
    let m = live-inside s.tables.records (next_record s)
    (ready-live s (next_record s) (call_at s i) t (k.calls_fit i None l)) in omega arith)

-- ---- a new block that a new record counts

abbrev pub both : Tables → Block → Tables
both g b = recorded (grown g b) 1 (length g.blocks)

-- tables with a block and a record of it more keep what live handles and calls speak of
pub both-keeps : (g : Tables) (b : Block) → Keeps g (both g b)
both-keeps g b =
    let one = grown-keeps g b in
    let two = recorded-keeps (grown g b) 1 (length g.blocks) in
    record {
      align_bits = refl;
      tail_bits = refl;
      size_bits = refl;
      longer = one.longer;
      blocks = one.blocks;
      with' = one.with';
      records = two.records;
    }

-- a new block at a good place, a record of it that counts one, and a handle by it inside the block, writable only where that
-- is native, keep the machine sound, where there were fewer than 2^32 of each
pub sound-recorded : (s : State) (b : Block) (x : Handle) → IsSound s → IsGoodPlace s.tables.blocks b.base b.size b.align
    → x.word ≡ Counted (length s.tables.records) → LiesIn b x x.kind → (x.kind ≡ Mut → b.external ≡ false) → length s.tables.blocks < 2 ^ 32
    → length s.tables.records < 2 ^ 32 → length s.handles < 2 ^ 32
    → IsSound (with_handle (with_record (with_block s b) 1 (length s.tables.blocks)) x)
sound-recorded s b x k good xw lies native few few' fewer =
    let g : Tables = s.tables in
    let n : ℕ = length s.tables.blocks in
    let r : ℕ = length s.tables.records in
    let g' : Tables = both s.tables b in
    let new : record_at g' r ≡ record { count = 1; block = length s.tables.blocks; live = true } = recorded-new (grown s.tables b) 1
    (length s.tables.blocks) in
    let new-block : (record_at g' r).block ≡ n = ap (λ (v : Record). v.block) new in
    let at : block_at g' n ≡ b = get_or-append_seam g.blocks b [] _ in
    let shown = unhidden-next s k in
    sound-block s b x g'.records k good few (rw length-append (omega arith)) fewer (both-keeps g b)
    (recorded-let_go (grown g b) 1 n _) (recorded-live (grown s.tables b) 1 n) (owner-counted g' x r xw ∙ ap Some new-block)
    (subst (λ (v : Word). FitsWord g' s.calls x v) (sym xw) (record {
      live = ap (λ (v : Record). v.live) new;
      known = rw new-block (rw length-append (omega arith));
      shown = shown;
      lies = rw (new-block, at) lies;
      native = λ m. rw (new-block, at) (native m);
    })) (λ q live ne. elim (recorded-either (grown s.tables b) 1 n q live) [ inl w ↦ w.1 | inr i ↦ absurd (ne i) ])
    (λ _. (new, shown, describes-counted g' n x r xw)) (record-log-more _ refl k.record_log)

-- ---- a new record in the place of a handle's descriptor

-- a handle by a descriptor that no call borrows becomes a view by a new record that counts one, where there were fewer than
-- 2^32 records: the machine stays sound
pub sound-promoted : (s : State) (h : ℕ) (x : Handle) (w b : ℕ) (kind : Kind) → IsSound s → Lends s h kind x → x.word ≡ Descriptor w
    → owner_of s.tables x ≡ Some b → length s.tables.records < 2 ^ 32
    → IsSound (edited (with_record s 1 b) h (frozen x (Counted (length s.tables.records))))
sound-promoted s h x w b kind k t xw ox few =
    let g : Tables = s.tables in
    let at = t.at in
    let r : ℕ = length s.tables.records in
    let y : Handle = frozen x (Counted (length s.tables.records)) in
    let g' : Tables = recorded s.tables 1 b in
    let next : State = edited (with_record s 1 b) h y in
    let l = at-some s.handles h x at in
    let d = described-at s h x w k at xw in
    let same : d.block ≡ b = (let q = sym d.says.owner ∙ ox in cc) in
    let new : record_at g' r ≡ record { count = 1; block = b; live = true } = recorded-new s.tables 1 b in
    let new-block : (record_at g' r).block ≡ b = ap (λ (v : Record). v.block) new in
    let e = recorded-keeps g 1 b in
    let ox' : owner_of g' x ≡ Some b = owner-kept g g' s.calls x e (fits-at s h x k at) ∙ ox in
    let oy : owner_of g' y ≡ Some b = owner-counted g' y r refl ∙ ap Some new-block in
    let v : Swapped s next (Some x) (Some y) None None = swapped k e (recorded-let_go g 1 b _) (swaps-set _ h _ at l) (swaps-none _) in
    let hm : (c : ℕ) → holders (reading next) c ≡ holders (reading s) c = λ c. let z = rw (ox', oy) at (v.holders c) in omega (arith, z) in
    let one : holders (reading s) b ≡ 1 = alone-at s h x b k at (alone-described g b x w xw ∙ ap (is_block b) ox ∙ eq-eqb b b refl) in
    let one' : holders (reading next) b ≡ 1 = hm b ∙ one in
    let some : 0 < users (reading next) b = omega (arith, one', holders-le-users (reading next) b) in
    let dm = rw (ox', oy, xw, eq-eqb b b refl) at (v.describes b) in
    let shown = unhidden-next s k in
    sound-framed r k refl v (λ d ne. (rw ox' (ne_eqb d b ne), rw oy (ne_eqb d b ne), refl, refl)) (record {
      size = sized k.size k.size.few_blocks (rw length-append (omega arith)) (rw length-set k.size.few_handles) k.size.few_calls;
      blocks = k.blocks;
      fit = All-set (Fits g' s.calls) s.handles h (Some y) (record {
        live = ap (λ (v : Record). v.live) new;
        known = rw (new-block, ← same) d.says.known;
        shown = shown;
        lies = rw (new-block, ← same) (frozen-lies (block_at g d.block) x (Counted r) x.kind d.says.lies);
        native = λ m. absurd (cc);
      }) (all-fit-on s.calls s.handles e (λ _ q z _ _ c. (recorded-live g 1 b q c.live, c.shown)) k.fit);
      calls_fit = λ _. calls-kept next k refl e (recorded-live g 1 b) (lent-stays s h _ t.free) (recorded-let_go g 1 b _) (λ c _. hm c);
      kept = λ q l ne. (elim (recorded-either g 1 b q l) [ inl v ↦ v.1 | inr i ↦ absurd (ne i) ], refl);
      apart = λ q l ne i. (λ z. let u = rw i at ((k.counted q l).undescribed z) in omega (arith, u, dm), some);
      mine = λ _. record {
        block = new-block;
        shown = shown;
        counts = ap (λ (v : Record). v.count) new ∙ sym one';
        used = some;
        undescribed = omega (arith, dm, describes-few s b, one);
      };
      known = rw (← same) d.says.known;
      one_release = omega (arith, v.releases b, k.one_release b);
      sole = λ _. one';
      capped = omega (arith, one');
      block_log = block-log-still b (omega (arith, one, holders-le-users (reading s) b)) some k.block_log;
      record_log = record-log-more _ refl k.record_log;
    })
