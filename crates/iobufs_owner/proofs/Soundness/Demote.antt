-- A descriptor in the place of a record that counts one view keeps the machine sound.
use Rattle.iobufs_owner.proofs.Base.{◌≡◌, ℕ, ◌+◌, ◌^◌, ◌<◌, ◌≤◌, true, false, length, sym, ◌∙◌, ap, refl, arith, Some, None, length-set, IsPowerOfTwo, HasRoom, word_of, State, Tables, owner_of, record_at, block_at, base_by, block_with, holders, reading, IsSound, IsDescribed, edited, tables_without, record_freed, Lends, fits_in, tail_of, may_demote, described, demote_counted, Block, Handle, View, Counted, Declined, Done, word-size, word-tail, fits-room, fits-true, owner-kept, handles-fit-set, at-some, owner-counted, ne_eqb, fits-at, counted-at, lies-as, live-inside, no_block, owner-described, bases, record-log-dead, and_parts, eqb-true, false_from_ne_true, not-true, log-is, log_of, calls-fit-kept, lent-stays, Swapped, swapped, holders-le-users, swaps-none, swaps-set}
use Rattle.iobufs_owner.proofs.Soundness.RecordFreed.{dead-at, dead-keeps, dead-let_go, dead-live}
use Rattle.iobufs_owner.proofs.Soundness.Alone.{only, unready, named-once, calls-live, fit-dead}
use Rattle.iobufs_owner.proofs.Soundness.BlockFreed.{counted-ends}
use Rattle.iobufs_owner.proofs.Soundness.Recovered.{with-first}
use Rattle.iobufs_owner.proofs.Soundness.Frame.{block-log-still, sound-framed}

-- ---- when a record may go

pub record MayDemote (g : Tables) (x : Handle) (r : ℕ) : Type 0 where
  pub one : (record_at g r).count ≡ 1
  pub native : (block_at g (record_at g r).block).external ≡ false
  pub room : HasRoom g.align_bits g.tail_bits g.size_bits (block_at g (record_at g r).block).size
      (log_of (block_at g (record_at g r).block).align)
      (tail_of (block_at g (record_at g r).block) x)

-- where the test of a demotion passes, the record counts one, its block is native, and size, alignment and tail have room in a word
pub may-tells : (g : Tables) (x : Handle) (r : ℕ) → may_demote g x r ≡ true → MayDemote g x r
may-tells g x r e =
    let b : Block = block_at g (record_at g r).block in
    let p = and_parts _ (fits_in g b.size (log_of b.align) (tail_of b x)) e in
    let q = and_parts _ _ p.0 in
    record {
      one = eqb-true (record_at g r).count 1 q.0;
      native = not-true b.external q.1;
      room = fits-room g.align_bits g.tail_bits g.size_bits b.size (log_of b.align) (tail_of b x) p.1;
    }

-- ---- the block that the descriptor says

-- the handle goes by the descriptor, and holds what it held
pub owner-demoted : (s : State) (h r : ℕ) (x : Handle) → IsSound s → Lends s h View x → x.word ≡ Counted r → MayDemote s.tables x r
    → owner_of (tables_without s.tables r) (described s.tables x r) ≡ Some (record_at s.tables r).block
owner-demoted s h r x k t xw m =
    let g : Tables = s.tables in
    let b : ℕ = (record_at s.tables r).block in
    let bl : Block = block_at s.tables (record_at s.tables r).block in
    let y : Handle = described s.tables x r in
    let w : ℕ = word_of g.align_bits g.tail_bits bl.size (log_of bl.align) (tail_of bl x) in
    let f = counted-at s h x r k t.at xw in
    let lies = lies-as bl x View t.kind_is f.lies in
    let size = word-size g.align_bits g.tail_bits g.size_bits w bl.size (log_of bl.align) (tail_of bl x) m.room refl in
    let tail = word-tail g.align_bits g.tail_bits g.size_bits w bl.size (log_of bl.align) (tail_of bl x) m.room refl in
    let base : base_by (tables_without s.tables r) y w ≡ bl.base = rw (t.kind_is, size, tail) (omega (arith, lies.begins, lies.ends)) in
    owner-described (tables_without s.tables r) y w refl ∙ ap (λ (n : ℕ). block_with n g.blocks) base
    ∙ with-first bl.base g.blocks b f.known refl (λ c m. bases g c b k.blocks (omega (arith, f.known)) f.known (omega arith))

pub described-demoted : (s : State) (h r : ℕ) (x : Handle) → IsSound s → Lends s h View x → x.word ≡ Counted r
    → MayDemote s.tables x r
    → IsDescribed (tables_without s.tables r) (described s.tables x r)
    (word_of s.tables.align_bits s.tables.tail_bits (block_at s.tables (record_at s.tables r).block).size
    (log_of (block_at s.tables (record_at s.tables r).block).align)
    (tail_of (block_at s.tables (record_at s.tables r).block) x)) (record_at s.tables r).block
    (log_of (block_at s.tables (record_at s.tables r).block).align) (tail_of (block_at s.tables (record_at s.tables r).block) x)
described-demoted s h r x k t xw m =
    let bl : Block = block_at s.tables (record_at s.tables r).block in
    let f = counted-at s h x r k t.at xw in
    let lies = lies-as bl x View t.kind_is f.lies in
    record {
      known = f.known;
      room = m.room;
      word = refl;
      align = log-is bl.base bl.size bl.align (k.blocks.places (record_at s.tables r).block no_block f.known);
      native = m.native;
      owner = owner-demoted s h r x k t xw m;
      lies = rw t.kind_is (record { begins = lies.begins; ends = lies.ends; no_room = lies.no_room });
      behind = rw t.kind_is (omega (arith, lies.begins, lies.ends));
    }

-- ---- Demote

-- a view by a record that no call borrows goes by a descriptor instead, and its record is freed: the machine stays sound,
-- where the record may go
pub sound-demoted : (s : State) (h r : ℕ) (x : Handle) → IsSound s → Lends s h View x → x.word ≡ Counted r
    → MayDemote s.tables x r
    → IsSound (edited (record_freed s r) h (described s.tables x r))
sound-demoted s h r x k t xw may =
    let g : Tables = s.tables in
    let g' : Tables = tables_without s.tables r in
    let b : ℕ = (record_at s.tables r).block in
    let y : Handle = described s.tables x r in
    let next : State = edited (record_freed s r) h (described s.tables x r) in
    let f = counted-at s h x r k t.at xw in
    let l = at-some s.handles h x t.at in
    let inside = live-inside g.records r f.live in
    let one : holders (reading s) b ≡ 1 = sym ((k.counted r f.live).counts f.shown) ∙ may.one in
    let ox : owner_of g x ≡ Some b = owner-counted g x r xw in
    let me = only s h b x k t.at ox one in
    let once = named-once s h r x k t.at xw one in
    let e = dead-keeps g r in
    let ox' : owner_of g' x ≡ Some b = owner-kept g g' s.calls x e (fits-at s h x k t.at) ∙ ox in
    let oy : owner_of g' y ≡ Some b = owner-demoted s h r x k t xw may in
    let v : Swapped s next (Some x) (Some y) None None = swapped k e (dead-let_go g r _) (swaps-set _ h (Some y) t.at l) (swaps-none _) in
    let hm : (c : ℕ) → holders (reading next) c ≡ holders (reading s) c = λ c. let z = rw (ox', oy) at (v.holders c) in omega (arith, z) in
    let one' : holders (reading next) b ≡ 1 = hm b ∙ one in
    sound-framed r k refl v (λ d ne. (rw ox' (ne_eqb d b ne), rw oy (ne_eqb d b ne), refl, refl)) (record {
      size = rw (length-set, length-set) k.size;
      blocks = k.blocks;
      fit = handles-fit-set g' s.calls s.handles h (Some y) l (record {
        block = b;
        log = log_of (block_at s.tables (record_at s.tables r).block).align;
        tail = tail_of (block_at s.tables (record_at s.tables r).block) x;
        says = described-demoted s h r x k t xw may;
      }) (λ i ne li. fit-dead s h r i k once ne li);
      calls_fit = λ _. calls-fit-kept next k refl e (λ i q li m t. calls-live s h r q i once li m t) (lent-stays s h (Some y) t.free)
          (dead-let_go g r _) (λ i q li e. hm (record_at g q).block);
      kept = λ q _ ne. (dead-at g r q ne, refl);
      apart = λ q live ne i. absurd (ne (k.one_record q r live f.live (unready s h b q k me t.free i) f.shown i));
      mine = λ live. absurd ((dead-live g r r inside live).1 refl);
      known = f.known;
      one_release = omega (arith, v.releases b, k.one_release b);
      sole = λ _. one';
      capped = omega (arith, one');
      block_log = block-log-still b (k.counted r f.live).used (omega (arith, one', holders-le-users (reading next) b)) k.block_log;
      record_log = record-log-dead r _ inside refl f.live k.record_log;
    })

-- ---- the state before the call

pub record Demoting (s : State) (x : Handle) (r : ℕ) : Type 0 where
  pub reaches : x.ptr + x.len ≤ (block_at s.tables (record_at s.tables r).block).base +
      (block_at s.tables (record_at s.tables r).block).size
  pub power : IsPowerOfTwo (block_at s.tables (record_at s.tables r).block).align
  pub log : (block_at s.tables (record_at s.tables r).block).align ≡ 2 ^ log_of (block_at s.tables (record_at s.tables r).block).align
  pub log_room : length s.freed_records < length s.tables.records

-- of a view by a record that no call borrows: the view ends in its block, the alignment there is a power of two, and the log of
-- freed records is shorter than the table
pub demoting : {s : State} {h r : ℕ} {x : Handle} → IsSound s → Lends s h View x → x.word ≡ Counted r → Demoting s x r
demoting {s} {h} {r} {x} k t xw =
    let f = counted-at s h x r k t.at xw in
    let lies = lies-as (block_at s.tables (record_at s.tables r).block) x View t.kind_is f.lies in
    record {
      reaches = lies.ends;
      power = (k.blocks.places (record_at s.tables r).block no_block f.known).power;
      log = log-is _ _ _ (k.blocks.places (record_at s.tables r).block no_block f.known);
      log_room = (counted-ends s r k f.live).1;
    }

-- where the record may not go, a demotion declines and changes nothing
pub keeps-record : (s : State) (h r : ℕ) (x : Handle) → (MayDemote s.tables x r → ⊥) → (Declined ≡ (demote_counted s h x r).reply)
    × (s ≡ (demote_counted s h x r).state)
keeps-record s h r x n = rw (false_from_ne_true (may_demote s.tables x r) (λ e. n (may-tells s.tables x r e))) (refl, refl)

-- where the record may go, a demotion is done: the record alone is freed, and the view has the descriptor
pub frees-record : (s : State) (h r : ℕ) (x : Handle) → MayDemote s.tables x r → (Done ≡ (demote_counted s h x r).reply)
    × (edited (record_freed s r) h (described s.tables x r) ≡ (demote_counted s h x r).state)
frees-record s h r x m = rw (m.one, m.native, fits-true _ _ _ _ _ _ m.room) (refl, refl)
