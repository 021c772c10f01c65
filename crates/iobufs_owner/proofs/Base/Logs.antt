-- The logs of freed blocks and freed records stay exact (`LogsBlocks`, `LogsRecords`) where one comes or is freed.
use Rattle.iobufs_owner.proofs.Base.Known.{◌≡◌, ◌≢◌, ◌⊎◌, inl, inr, ℕ, zero, suc, ◌+◌, ◌<◌, ◌==◌, ◌||◌, Bool, true, false, not, cond, List, [], ◌∷◌, ◌++◌, length, get_or, set, map, sym, ◌∙◌, ap, refl, arith, All, length-append, length-set, All-push, All-weaker, ext_get_or, get_or-map, get_or-set_same, get_or-set_other, length-map, get_or_append_left, get_or-append_seam, eqb_tells, Tables, block_at, triple, tally, is_freed, same_freed, ArePlaced, IsTripleOf, LogsBlocks, LogsRecords, is_logged, is_dead, Block, Freed, Record, ne_eqb, eq-eqb, or_right, list_any-append, list_any_at, list_any_none}
use Rattle.iobufs_owner.proofs.Base.Counts.{count-append, count-few, count-set, count-map}
use Rattle.iobufs_owner.proofs.Base.Edits.{no_block}
use Rattle.iobufs_owner.proofs.Base.StaysSound.{no_record}
use Rattle.std.specs.List.{list_any}

any-push : {X : Type 0} (p : X → Bool) (xs : List X) (y : X) → list_any p (xs ++ y ∷ []) ≡ (list_any p xs || p y)
any-push p xs y = list_any-append p xs (y ∷ []) ∙ grind (arith)

-- where one fails, fewer pass than there are
pub count-short : {X : Type 0} (p : X → Bool) (xs : List X) (i : ℕ) (d : X) → i < length xs → p (get_or xs i d) ≡ false
    → tally p xs < length xs
count-short p [] i d l e = absurd (omega arith)
count-short p (x ∷ xs) zero d l e = rw e (omega (arith, count-few p xs))
count-short p (x ∷ xs) (suc i) d l e = grind (arith, count-short p xs i d (omega arith) e)

-- one more that isn't among them
pub once-push : {X : Type 0} (xs : List X) (y : X) → ((i j : ℕ) (d : X) → i < j → j < length xs → get_or xs i d ≢ get_or xs j d)
    → ((i : ℕ) (d : X) → i < length xs → get_or xs i d ≢ y) → (i j : ℕ) (d : X) → i < j → j < length (xs ++ y ∷ [])
    → get_or (xs ++ y ∷ []) i d ≢ get_or (xs ++ y ∷ []) j d
once-push xs y old new i j d h l =
    let m = rw length-append at l in
    let li : i < length xs = omega arith in
    rw (get_or_append_left xs (y ∷ []) d i li) (elim (eqb_tells j (length xs)) [
      | inl z ↦ rw (z.1, get_or-append_seam xs y [] d) (new i d li)
      | inr z ↦ (let lj : j < length xs = (let n = z.1 in omega arith) in rw (get_or_append_left xs (y ∷ []) d j lj) (old i j d h lj))
    ])

-- a number below n + 1 is below n, or is n
pub below-or : (c n : ℕ) → c < n + 1 → (c < n) ⊎ (c ≡ n)
below-or c n h = elim (eqb_tells c n) [ inl e ↦ inr e.1 | inr e ↦ inl (let ne = e.1 in omega arith) ]

-- ---- freed records

-- each entry of a log of records is logged there
pub logged-at : (log : List ℕ) (i d : ℕ) → i < length log → is_logged (get_or log i d) log ≡ true
logged-at log i d l = list_any_at (λ q. get_or log i d == q) log i d l (eq-eqb (get_or log i d) (get_or log i d) refl)

-- one record more, which is live
pub record-log-more : {rs : List Record} {log : List ℕ} (v : Record) → v.live ≡ true → LogsRecords rs log → LogsRecords (rs ++ v ∷ []) log
record-log-more {rs} {log} v e k = record {
  exact = λ r l. elim (below-or r (length rs) (rw length-append at l)) [
    | inl m ↦ rw (get_or_append_left rs (v ∷ []) no_record r m) (k.exact r m)
    | inr m ↦ rw (m, get_or-append_seam rs v [] no_record, e) (list_any_none (λ q. length rs == q) log
        (All-weaker (λ q. q < length rs) (λ q. (length rs == q) ≡ false) (λ q l. ne_eqb (length rs) q (omega arith)) log k.known))
  ];
  known = All-weaker (λ r. r < length rs) (λ r. r < length (rs ++ v ∷ [])) (λ r l. rw length-append (omega arith)) log k.known;
  once = k.once;
  many = let m = k.many in rw (count-append is_dead rs v, e) (omega (arith, m));
}

-- another count for a record
pub record-log-counted : {rs : List Record} {log : List ℕ} (r : ℕ) (v : Record) → r < length rs → v.live ≡ (get_or rs r no_record).live
    → LogsRecords rs log → LogsRecords (set rs r v) log
record-log-counted {rs} {log} r v l e k = record {
  exact = λ q m. let n : q < length rs = (let z = rw length-set at m in z) in elim (eqb_tells q r) [
    | inl i ↦ rw (i.1, get_or-set_same rs r v no_record l) (k.exact r l ∙ ap not (sym e))
    | inr i ↦ rw (get_or-set_other rs r q v no_record i.1) (k.exact q n)
  ];
  known = All-weaker (λ r. r < length rs) (λ q. q < length (set rs r v)) (λ q l. rw length-set l) log k.known;
  once = k.once;
  many = let c = count-set is_dead rs r v no_record l in let m = k.many in let same : is_dead v ≡ is_dead (get_or rs r no_record) =
      ap not e in let z = rw same at c in omega (arith, z, m);
}

-- a live record is freed
pub record-log-dead : {rs : List Record} {log : List ℕ} (r : ℕ) (v : Record) → r < length rs → v.live ≡ false
    → (get_or rs r no_record).live ≡ true
    → LogsRecords rs log → LogsRecords (set rs r v) (log ++ r ∷ [])
record-log-dead {rs} {log} r v l dead live k =
    let before : is_logged r log ≡ false = k.exact r l ∙ ap not live in
    record {
      exact = λ q m. let n : q < length rs = (let z = rw length-set at m in z) in any-push (λ x. q == x) log r ∙ elim (eqb_tells q r) [
        | inl i ↦ rw (i.1, eq-eqb r r refl, get_or-set_same rs r v no_record l, dead) (or_right (is_logged r log) true refl)
        | inr i ↦ rw (ne_eqb q r i.1, get_or-set_other rs r q v no_record i.1) (grind (arith, k.exact q n))
      ];
      known = All-push (λ q. q < length (set rs r v)) log r
          (All-weaker (λ q. q < length rs) (λ q. q < length (set rs r v)) (λ q l. rw length-set l) log k.known) (rw length-set l);
      once = λ i j d h t. once-push log r (λ i j d h t. k.once i j d h t)
          (λ i d t z. let w = rw z at (logged-at log i d t) in cc) i j d h t;
      many = let c = count-set is_dead rs r v no_record l in let m = k.many in let one : ◌≡◌ {A = ℕ} (cond (is_dead v) 1 0) 1 =
          ap (λ (b : Bool). cond {A = ℕ} (not b) 1 0) dead in let none : ◌≡◌ {A = ℕ} (cond (is_dead (get_or rs r no_record)) 1 0) 0 =
          ap (λ (b : Bool). cond {A = ℕ} (not b) 1 0) live in rw length-append (omega (arith, c, one, none, m));
    }

-- where a record is live, the log has room
pub record-log-room : {rs : List Record} {log : List ℕ} (r : ℕ) → r < length rs → (get_or rs r no_record).live ≡ true → LogsRecords rs log
    → length log < length rs
record-log-room {rs} r l live k = let s = count-short is_dead rs r no_record l (ap not live) in let m = k.many in omega (arith, s, m)

-- ---- freed blocks

same-triple : (b : Block) → same_freed b (triple b) ≡ true
same-triple b = rw (eq-eqb b.base b.base refl, eq-eqb b.size b.size refl, eq-eqb b.align b.align refl) refl

-- two blocks have two bases
pub bases : (g : Tables) (b c : ℕ) → ArePlaced g.blocks → b < length g.blocks → c < length g.blocks → b ≢ c
    → (block_at g b).base ≢ (block_at g c).base
bases g b c k lb lc ne e =
    let pb = (k.places b no_block lb).some in
    let pc = (k.places c no_block lc).some in
    let one : b < c → ⊥ = λ l. elim (k.apart b c l lc) [ inl a ↦ omega (arith, a, pb, pc, e) | inr a ↦ omega (arith, a, pb, pc, e) ] in
    let two : c < b → ⊥ = λ l. elim (k.apart c b l lb) [ inl a ↦ omega (arith, a, pb, pc, e) | inr a ↦ omega (arith, a, pb, pc, e) ] in
    grind (arith, one, two)

-- one triple more in the log frees its block alone
pub freed-more : (g : Tables) (log : List Freed) (b : ℕ) → ArePlaced g.blocks → b < length g.blocks
    → map (λ (x : Block). is_freed x (log ++ triple (block_at g b) ∷ [])) g.blocks ≡ set
    (map (λ (x : Block). is_freed x log) g.blocks) b true
freed-more g log b k l =
    let old : Block → Bool = λ (x : Block). is_freed x log in
    let new : Block → Bool = λ (x : Block). is_freed x (log ++ triple (block_at g b) ∷ []) in
    let bs : List Block = g.blocks in
    ext_get_or false (map new bs) (set (map old bs) b true) (simp (length-set, length-map)) (λ i h.
    let li : i < length g.blocks = rw length-map at h in
    get_or-map new bs i no_block false li ∙ any-push (same_freed (block_at g i)) log (triple (block_at g b)) ∙ elim (eqb_tells i b) [
      | inl z ↦ rw (z.1, same-triple (block_at g b), get_or-set_same (map old bs) b true false (rw length-map l))
          (or_right (is_freed (block_at g b) log) true refl)
      | inr z ↦ rw (
        ne_eqb (block_at g i).base (block_at g b).base (bases g i b k li l z.1),
        get_or-set_other (map old bs) b i true false z.1,
      )
          (grind (arith, get_or-map old bs i no_block false li))
    ])

-- the block that is freed had users and has none, and all others keep having some or none
pub block-log-freed : (g : Tables) {log : List Freed} (b : ℕ) {used used' : ℕ → ℕ} → ArePlaced g.blocks → b < length g.blocks → 0 < used b
    → used' b ≡ 0
    → LogsBlocks g.blocks log used → ((c : ℕ) → c ≢ b → used' c ≡ used c)
    → LogsBlocks g.blocks (log ++ triple (block_at g b) ∷ []) used'
block-log-freed g {log} b {used} {used'} p l some none k others =
    let before : is_freed (block_at g b) log ≡ false = k.freed b l ∙ ne_eqb (used b) 0 (omega arith) in
    record {
      freed = λ c t. any-push (same_freed (block_at g c)) log (triple (block_at g b)) ∙ elim (eqb_tells c b) [
        | inl i ↦ rw (i.1, none, same-triple (block_at g b)) (or_right (is_freed (block_at g b) log) true refl)
        | inr i ↦ rw (others c i.1, ne_eqb (block_at g c).base (block_at g b).base (bases g c b p t l i.1))
            (grind (arith, k.freed c t))
      ];
      known = All-push (IsTripleOf g.blocks) log (triple (block_at g b)) k.known (record { block = b; known = l; is = refl });
      once = λ i j d h t. once-push log (triple (block_at g b)) (λ i j d h t. k.once i j d h t) (λ i d t h.
          let z = list_any_at (same_freed (block_at g b)) log i d t (rw h (same-triple (block_at g b))) in cc) i j d h t;
      many =
          let old : Block → Bool = λ (x : Block). is_freed x log in
          let new : Block → Bool = λ (x : Block). is_freed x (log ++ triple (block_at g b) ∷ []) in
          let a = count-map (λ (v : Bool). v) new g.blocks in
          let o = count-map (λ (v : Bool). v) old g.blocks in
          let lm : b < length (map old g.blocks) = rw length-map l in
          let c = count-set (λ (v : Bool). v) (map old g.blocks) b true false lm in
          let at : get_or (map old g.blocks) b false ≡ false = get_or-map old g.blocks b no_block false l ∙ before in
          let c2 = rw (at, ← freed-more g log b p l) at c in
          let m = k.many in
          rw length-append (omega (arith, a, o, c2, m));
    }

-- where a block has a user, the log has room
pub block-log-room : {bs : List Block} {log : List Freed} {used : ℕ → ℕ} (b : ℕ) → b < length bs → 0 < used b → LogsBlocks bs log used
    → length log < length bs
block-log-room {bs} {log} {used} b l some k =
    let before : is_freed (get_or bs b no_block) log ≡ false = k.freed b l ∙ ne_eqb (used b) 0 (omega arith) in
    let s = count-short (λ (x : Block). is_freed x log) bs b no_block l before in
    let m = k.many in
    omega (arith, s, m)

-- a new block isn't in the log
pub fresh-log : (g : Tables) (b : Block) (fs : List Freed) → All (λ (x : Block). x.base ≢ b.base) g.blocks → All (IsTripleOf g.blocks) fs
    → is_freed b fs ≡ false
fresh-log g b fs other known = list_any_none (same_freed b) fs (λ i d l.
    let one = known i d l in
    let ne = other one.block no_block one.known in
    rw (ne_eqb b.base (get_or fs i d).base (λ i. ne (sym (ap (λ (f : Freed). f.base) one.is) ∙ sym i))) refl)

-- one block more, which has a user
pub block-log-more : (g : Tables) (b : Block) {log : List Freed} {used used' : ℕ → ℕ} → All (λ (x : Block). x.base ≢ b.base) g.blocks
    → used' (length g.blocks) ≡ 1 → LogsBlocks g.blocks log used → ((c : ℕ) → c ≢ length g.blocks → used' c ≡ used c)
    → LogsBlocks (g.blocks ++ b ∷ []) log used'
block-log-more g b {log} {used} {used'} other one k others =
    let new = fresh-log g b log other k.known in
    let at : get_or (g.blocks ++ b ∷ []) (length g.blocks) no_block ≡ b = get_or-append_seam g.blocks b [] no_block in
    record {
      freed = λ c l. elim (below-or c (length g.blocks) (rw length-append at l)) [
        | inl m ↦ rw (get_or_append_left g.blocks (b ∷ []) no_block c m, others c (omega (arith, m))) (k.freed c m)
        | inr m ↦ rw (m, at, one) new
      ];
      known = All-weaker (IsTripleOf g.blocks) (IsTripleOf (g.blocks ++ b ∷ [])) (λ f t. record {
        block = t.block;
        known = (let l = t.known in rw length-append (omega (arith, l)));
        is = rw (get_or_append_left g.blocks (b ∷ []) no_block t.block t.known) t.is;
      }) log k.known;
      once = k.once;
      many = let m = k.many in rw (count-append (λ (x : Block). is_freed x log) g.blocks b, new) (omega (arith, m));
    }
