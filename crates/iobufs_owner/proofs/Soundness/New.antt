-- A new block with its first handle keeps the machine sound.
use Rattle.iobufs_owner.proofs.Base.{◌≡◌, ◌≢◌, ℕ, ◌+◌, ◌^◌, ◌<◌, inl, inr, true, false, List, [], ◌∷◌, ◌++◌, length, refl, arith, All, Some, length-append, All-push, get_or-append_seam, HasRoom, word_of, State, Tables, owner_of, base_by, record_at, block_at, holders, users, reading, IsSound, ArePlaced, Fits, describes, with_block, with_handle, first_handle, IsPlace, IsGoodPlace, Apart, ApartFrom, Block, Handle, Descriptor, unpack-size, calls-kept, append-at, holders-le-users, grown, grown-keeps, with-fresh, ne_eqb, eq-eqb, no_block, below-or, block-log-more, sized, all-fit-on, Keeps, KeepsLetGo, FitsWord, Record, hidden, LogsRecords, ◌≤◌, describes-few, sym, None, Swapped, ap, swapped, live-inside, swaps-none, swaps-push, ◌∙◌}
use Rattle.iobufs_owner.proofs.Soundness.Frame.{sound-framed}

-- no earlier block has the base of a good place
pub other-base : (bs : List Block) (b : Block) → All (λ (x : Block). IsPlace x.base x.size x.align) bs
    → IsGoodPlace bs b.base b.size b.align
    → All (λ (x : Block). x.base ≢ b.base) bs
other-base bs b p good i d h e =
    elim (good.apart i d h) [
      | inl a ↦ absurd (let q = (p i d h).some in omega (arith, a, q, e))
      | inr a ↦
          absurd (let q = good.place.some in omega (arith, a, q, e))
    ]

first-base : (g : Tables) (b : Block) (log w : ℕ) → HasRoom g.align_bits g.tail_bits g.size_bits b.size log 0
    → w ≡ word_of g.align_bits g.tail_bits b.size log 0 → base_by g (first_handle b (Descriptor w)) w ≡ b.base
first-base g b log w room is =
    let u = unpack-size g.align_bits g.tail_bits b.size log 0 room.log_fits room.tail_fits in
    rw (is, u) (omega arith)

-- the first handle of a block at a good place, by the descriptor of its size and alignment, holds the new block
pub first-owner : (g : Tables) (b : Block) (log w : ℕ) → All (λ (x : Block). IsPlace x.base x.size x.align) g.blocks
    → IsGoodPlace g.blocks b.base b.size b.align → HasRoom g.align_bits g.tail_bits g.size_bits b.size log 0
    → w ≡ word_of g.align_bits g.tail_bits b.size log 0 → owner_of (grown g b) (first_handle b (Descriptor w)) ≡ Some (length g.blocks)
unfolding owner_of
first-owner g b log w p good room is =
    rw (first-base g b log w room is) (with-fresh b.base g.blocks b refl (other-base g.blocks b p good))

made-apart : (g : Tables) (b : Block) → ((c d : ℕ) → c < d → d < length g.blocks → Apart (block_at g c) (block_at g d))
    → All (λ x. ApartFrom x b.base b.size) g.blocks → (c d : ℕ) → c < d → d < length g.blocks + 1
    → Apart (block_at (grown g b) c) (block_at (grown g b) d)
made-apart g b old new c d h l =
    let at : block_at (grown g b) (length g.blocks) ≡ b = get_or-append_seam g.blocks b [] _ in
    let keep = (grown-keeps g b).blocks in
    elim (below-or d (length g.blocks) l) [
      | inl m ↦ rw (keep c (omega arith), keep d m) (old c d h m)
      | inr i ↦ rw (i, at, keep c (omega (arith, i))) (new c no_block (omega (arith, i)))
    ]

-- placed blocks with one more at a good place are placed
pub placed-more : (g : Tables) (b : Block) → ArePlaced g.blocks → IsGoodPlace g.blocks b.base b.size b.align → ArePlaced (grown g b).blocks
placed-more g b k good = record {
  places = All-push (λ (b : Block). IsPlace b.base b.size b.align) g.blocks b k.places good.place;
  apart = λ c d h l. made-apart g b k.apart good.apart c d h (rw length-append at l);
}

-- the tables with a block more and these records
abbrev pub more : Tables → Block → List Record → Tables
more g b rs = record (grown g b) { records = rs }

-- a new block at a good place, with a handle that holds it, keeps the machine sound, where there were few entries, and the
-- records are the old ones and perhaps one that counts the handle
pub sound-block : (s : State) (b : Block) (x : Handle) (rs : List Record) → IsSound s → IsGoodPlace s.tables.blocks b.base b.size b.align
    → length s.tables.blocks < 2 ^ 32 → length rs ≤ 2 ^ 32 → length s.handles < 2 ^ 32 → Keeps s.tables (more s.tables b rs)
    → All (KeepsLetGo s.tables (more s.tables b rs)) s.calls
    → ((q : ℕ) → (record_at s.tables q).live ≡ true → (record_at (more s.tables b rs) q).live ≡ true)
    → owner_of (more s.tables b rs) x ≡ Some (length s.tables.blocks) → FitsWord (more s.tables b rs) s.calls x x.word
    → ((q : ℕ) → (record_at (more s.tables b rs) q).live ≡ true → q ≢ length s.tables.records
    → record_at (more s.tables b rs) q ≡ record_at s.tables q)
    → ((record_at (more s.tables b rs) (length s.tables.records)).live ≡ true
    → (record_at (more s.tables b rs) (length s.tables.records) ≡ record { count = 1; block = length s.tables.blocks; live = true })
    × (hidden s.calls (length s.tables.records) ≡ 0) × (describes (more s.tables b rs) (length s.tables.blocks) (Some x) ≡ false))
    → LogsRecords rs s.freed_records
    → IsSound (record s { tables = more s.tables b rs; handles = s.handles ++ Some x ∷ [] })
sound-block s b x rs k good few few' fewer e gone live o fits kept new log =
    let g : Tables = s.tables in
    let n : ℕ = length s.tables.blocks in
    let g' : Tables = more s.tables b rs in
    let next : State = record s { tables = more s.tables b rs; handles = s.handles ++ Some x ∷ [] } in
    let w : Swapped s next None (Some x) None None = swapped k e gone (swaps-push _ (Some x)) (swaps-none _) in
    let unused : users (reading s) n ≡ 0 = grind (arith, k.known_users n) in
    let unheld : holders (reading s) n ≡ 0 = omega (arith, unused, holders-le-users (reading s) n) in
    let one : users (reading next) n ≡ 1 = (let z = rw (o, eq-eqb n n refl) at (w.users n) in omega (arith, z, unused)) in
    let sole : holders (reading next) n ≡ 1 = (let z = rw (o, eq-eqb n n refl) at (w.holders n) in omega (arith, z, unheld)) in
    sound-framed (length s.tables.records) k refl w (λ d ne. (refl, rw o (ne_eqb d n ne), refl, refl)) (record {
      size = sized k.size (rw length-append (omega arith)) few' (rw length-append (omega arith)) k.size.few_calls;
      blocks = placed-more g b k.blocks good;
      fit = All-push (Fits g' s.calls) s.handles (Some x)
          (all-fit-on s.calls s.handles e (λ _ q z _ _ c. (live q c.live, c.shown)) k.fit) fits;
      calls_fit = λ others. calls-kept next k refl e live (λ i y b a. append-at s.handles (Some x) i y a) gone
          (λ c l. others c (omega (arith, l)));
      kept = λ q live ne. (kept q live ne, refl);
      apart = λ q live _ i. absurd (omega (arith, (k.counted q live).known, i));
      mine = λ live. let m = new live in record {
        block = ap (λ (v : Record). v.block) m.0;
        shown = m.1;
        counts = ap (λ (v : Record). v.count) m.0 ∙ sym sole;
        used = omega (arith, one);
        undescribed = (let z = rw m.2 at (w.describes n) in omega (arith, z, describes-few s n, unheld));
      };
      known = rw length-append (omega arith);
      one_release = omega (arith, w.releases n, k.one_release n);
      sole = λ _. sole;
      capped = omega (arith, sole);
      block_log = block-log-more g b (other-base g.blocks b k.blocks.places good) one k.block_log;
      record_log = log;
    })

-- a new native block at a good place, with its first handle by a descriptor, keeps the machine sound, where there were fewer than 2^32
-- blocks and handles
pub sound-made : (s : State) (b : Block) (log w : ℕ) → IsSound s → IsGoodPlace s.tables.blocks b.base b.size b.align → b.external ≡ false
    → b.align ≡ 2 ^ log → HasRoom s.tables.align_bits s.tables.tail_bits s.tables.size_bits b.size log 0
    → w ≡ word_of s.tables.align_bits s.tables.tail_bits b.size log 0 → length s.tables.blocks < 2 ^ 32 → length s.handles < 2 ^ 32
    → IsSound (with_handle (with_block s b) (first_handle b (Descriptor w)))
sound-made s b log w k good native al room is few fewer =
    let g : Tables = s.tables in
    let o = first-owner g b log w k.blocks.places good room is in
    let at : block_at (grown g b) (length g.blocks) ≡ b = get_or-append_seam g.blocks b [] _ in
    sound-block s b (first_handle b (Descriptor w)) g.records k good few k.size.few_records fewer (grown-keeps g b) (λ i d l q j t. refl)
    (λ q t. t) o (record {
      block = length g.blocks;
      log = log;
      tail = 0;
      says = record {
        known = rw length-append (omega arith);
        room = rw at room;
        word = rw at is;
        align = rw at al;
        native = rw at native;
        owner = o;
        lies = rw at (record { begins = omega arith; ends = refl; within = omega arith });
        behind = refl;
      };
    }) (λ q _ _. refl) (λ live. absurd (omega (arith, live-inside g.records (length g.records) live))) k.record_log
