-- One holder more of a counted block keeps the machine sound.
use Rattle.iobufs_owner.proofs.Base.{Share, Shares, part, lies-as, ◌≡◌, ◌≢◌, ℕ, ◌+◌, ◌^◌, ◌<◌, ◌≤◌, List, length, get_or, set, sym, ◌∙◌, ap, refl, arith, All, Some, None, nat_eq, length-append, length-set, All-push, get_or-set_same, get_or-set_other, nat_tests, State, Tables, owner_of, record_at, block_at, handle_at, holders, users, reading, has_let_go, IsSound, Fits, alone, counted, with_count, with_handle, Record, Handle, View, Counted, count-some, count-less, Keeps, KeepsLetGo, calls-fit-kept, at-some, append-at, owner-counted, ne_eqb, eq-eqb, counted-at, live-inside, alone-shared, describes-counted, alone-holds, held_by, held-at, holders-as, record-log-counted, sized, all-fit-on, get_or-read, map-set_same, keeps-records, no_record, still_by, Swapped, swapped, holders-le-users, swaps-none, swaps-push, call_at, count-set, release-alone, releases, true}
use Rattle.iobufs_owner.proofs.Soundness.Frame.{block-log-still, sound-framed}

-- a write that keeps a field keeps it everywhere
pub field-set : {X Y : Type 0} (f : X → Y) (xs : List X) (i q : ℕ) (v d : X) → f v ≡ f (get_or xs i d)
    → f (get_or (set xs i v) q d) ≡ f (get_or xs q d)
field-set f xs i q v d e = sym (get_or-read f (set xs i v) q d) ∙ ap (λ l. get_or l q (f d)) (map-set_same f xs i v d e)
    ∙ get_or-read f xs q d

-- ---- another count for a record

-- another count for one record leaves the block of each
pub counted-block : (g : Tables) (r n q : ℕ) → (record_at (counted g r n) q).block ≡ (record_at g q).block
counted-block g r n q = field-set (λ (v : Record). v.block) g.records r q _ _ refl

-- another count for one record leaves each live or dead as it was
pub counted-live : (g : Tables) (r n q : ℕ) → (record_at (counted g r n) q).live ≡ (record_at g q).live
counted-live g r n q = field-set (λ (v : Record). v.live) g.records r q _ _ refl

-- tables with another count for a record keep what live handles and calls speak of
pub counted-keeps : (g : Tables) (r n : ℕ) → Keeps g (counted g r n)
counted-keeps g r n = keeps-records g (counted g r n).records (λ q e. counted-block g r n q)

-- where the count of that record stays 0, or stays another, each drop has let go as before
pub counted-let_go : (g : Tables) (r n q : ℕ) → nat_eq n 0 ≡ has_let_go g r → has_let_go (counted g r n) q ≡ has_let_go g q
counted-let_go g r n q e = field-set (λ (v : Record). nat_eq v.count 0) g.records r q _ _ e

-- a handle holds the block, so a drop that releases is one of another block
pub release-elsewhere : (s : State) (h b i : ℕ) (x : Handle) → IsSound s → handle_at s h ≡ Some x → owner_of s.tables x ≡ Some b
    → i < length s.calls → releases s.tables b (call_at s i) ≡ true → ⊥
release-elsewhere s h b i x k at o l t =
    let one = count-some (held_by s.tables b) s.handles h None (at-some s.handles h x at) (held-at s h x b at o) in
    let drop = count-set (still_by s.tables b) s.calls i None None l in
    omega (arith, holders-as s b, one, drop, release-alone s b (call_at s i) (k.calls_fit i None l) t)

-- the count of a handle's record isn't 0, and no more is it with a holder more
pub counted-more : (s : State) (h : ℕ) (x : Handle) (r : ℕ) → IsSound s → handle_at s h ≡ Some x → x.word ≡ Counted r
    → nat_eq ((record_at s.tables r).count + 1) 0 ≡ has_let_go s.tables r
counted-more s h x r k at w =
    let b : ℕ = (record_at s.tables r).block in
    let f = counted-at s h x r k at w in
    let held = count-some (held_by s.tables b) s.handles h None (at-some s.handles h x at)
    (held-at s h x b at (owner-counted s.tables x r w)) in
    let some : 0 < (record_at s.tables r).count = omega (arith, (k.counted r f.live).counts f.shown, holders-as s b, held) in
    grind (arith, nat_tests, some)

-- a record of the table has the count that it is given
pub counted-same : (g : Tables) (r n : ℕ) → r < length g.records → (record_at (counted g r n) r).count ≡ n
counted-same g r n l = rw (get_or-set_same g.records r _ no_record l) refl

-- another count for one record leaves the others as they were
pub counted-rest : (g : Tables) (r n q : ℕ) → q ≢ r → record_at (counted g r n) q ≡ record_at g q
counted-rest g r n q ne = get_or-set_other g.records r q _ no_record ne

-- a part of a view, by the record of the view and counted there, keeps the machine sound, where the count was at most the
-- ceiling and there were fewer than 2^32 handles
pub sound-added : (s : State) (r : ℕ) (m : Share) (x : Handle) → IsSound s → Shares s m x → x.word ≡ Counted r
    → (record_at s.tables r).count ≤ s.ceiling
    → length s.handles < 2 ^ 32 → IsSound (with_handle (with_count s r ((record_at s.tables r).count + 1)) (part x m.lo m.hi (Counted r)))
sound-added s r m x k sh xw on few =
    let h : ℕ = m.handle in
    let g : Tables = s.tables in
    let n : ℕ = (record_at s.tables r).count + 1 in
    let y : Handle = part x m.lo m.hi (Counted r) in
    let g' : Tables = counted s.tables r ((record_at s.tables r).count + 1) in
    let next : State = with_handle (with_count s r ((record_at s.tables r).count + 1)) y in
    let b : ℕ = (record_at s.tables r).block in
    let fx = counted-at s h x r k sh.at xw in
    let lies = lies-as (block_at g b) x View sh.view fx.lies in
    let me = k.counted r fx.live in
    let e = counted-keeps g r n in
    let bb = counted-block g r n r in
    let ox : owner_of g x ≡ Some b = owner-counted g x r xw in
    let o : owner_of g' y ≡ Some b = owner-counted g' y r refl ∙ ap Some bb in
    let gone : All (KeepsLetGo g g') s.calls = λ i d l q j t. counted-let_go g r n q (counted-more s h x r k sh.at xw) in
    let w : Swapped s next None (Some y) None None = swapped k e gone (swaps-push _ (Some y)) (swaps-none _) in
    let more : holders (reading next) b ≡ n = (let z = rw (o, eq-eqb b b refl) at (w.holders b) in omega (arith, z, me.counts fx.shown)) in
    let some : 0 < users (reading next) b = omega (arith, more, holders-le-users (reading next) b) in
    let inside = live-inside g.records r fx.live in
    sound-framed r k refl w (λ d ne. (refl, rw o (ne_eqb d b ne), refl, refl)) (record {
      size = sized k.size k.size.few_blocks (rw length-set k.size.few_records) (rw length-append (omega arith)) k.size.few_calls;
      blocks = k.blocks;
      fit = All-push (Fits g' s.calls) s.handles (Some y)
          (all-fit-on s.calls s.handles e (λ _ q z _ _ c. (counted-live g r n q ∙ c.live, c.shown)) k.fit) (record {
            live = counted-live g r n r ∙ fx.live;
            known = rw counted-block fx.known;
            shown = fx.shown;
            lies = rw bb (record { begins = omega (arith, lies.begins); ends = omega (arith, lies.ends); no_room = refl });
            native = λ m. absurd (cc);
          });
      calls_fit = λ others. calls-fit-kept next k refl e (λ _ q _ _ t. counted-live g r n q ∙ t) (λ i z _. append-at s.handles (Some y) i z)
          gone (λ p q l i. others (record_at g q).block (λ j. release-elsewhere s h b p x k sh.at ox l (rw i (eq-eqb b _ (sym j)))));
      kept = λ q _ ne. (counted-rest g r n q ne, refl);
      apart = λ q live ne i. (λ z. ne (k.one_record q r live fx.live z fx.shown i), some);
      mine = λ _. record {
        block = bb;
        shown = fx.shown;
        counts = counted-same g r n inside ∙ sym more;
        used = some;
        undescribed = (let z = rw (describes-counted g' b y r refl) at (w.describes b) in omega (arith, z, me.undescribed fx.shown));
      };
      known = fx.known;
      one_release = omega (arith, w.releases b, k.one_release b);
      sole = λ p. absurd (let z = rw (alone-shared g' b y r refl refl) at (w.alone b) in
          let less = count-less (held_by g b) (alone g b) s.handles h None (alone-holds g b) (at-some s.handles h x sh.at)
          (held-at s h x b sh.at ox) (rw sh.at (alone-shared g b x r xw sh.view)) in
          omega (arith, p, z, less, holders-as s b, k.sole b (omega (arith, z, p))));
      capped = omega (arith, more, on);
      block_log = block-log-still b me.used some k.block_log;
      record_log = record-log-counted r _ inside refl k.record_log;
    })
