-- A handle without block more, and a handle that changes and holds what it held, keep the machine sound.
use Rattle.iobufs_owner.proofs.Base.Known.{◌≡◌, ℕ, ◌^◌, ◌<◌, true, false, List, [], ◌∷◌, ◌++◌, length, get_or, set, ◌∙◌, refl, arith, Option, Some, None, length-append, length-set, All-push, All-set, get_or_append_left, get_or-set_other, with_handle, edited, is_lent, State, Tables, owner_of, record_at, handle_at, holders, users, tally, reading, IsSound, FitsWord, Fits, alone, describes, LogsBlocks, Block, Freed, Handle, Empty, Counted, All, FitsCall, FitsRecord, IsInSize, Pending, Record, call_at, subst, ◌≤◌, ◌+◌, releases, hidden, LogsRecords, nat_eq, ap, cases_Bool, inl, inr}
use Rattle.iobufs_owner.proofs.Base.Kept.{keeps-self, calls-kept, at-some}
use Rattle.iobufs_owner.proofs.Base.Counts.{count-append, count-set, held_by, holders-as, users-as}

-- a handle without block owns none
pub owner-empty : (g : Tables) (x : Handle) → x.word ≡ Empty → owner_of g x ≡ None
unfolding owner_of
owner-empty g x e = rw e refl

-- a handle by a record holds the record's block
pub owner-counted : (g : Tables) (x : Handle) (r : ℕ) → x.word ≡ Counted r → owner_of g x ≡ Some (record_at g r).block
unfolding owner_of
owner-counted g x r e = rw e refl

-- in a sound machine an unfinished call fits
pub call-fits : (s : State) (p : ℕ) (c : Pending) → IsSound s → call_at s p ≡ Some c → FitsCall s (Some c)
call-fits s p c k at = subst (λ (c : Option Pending). FitsCall s c) at (k.calls_fit p None (at-some s.calls p c at))

-- an entry stays at its index if another is appended
pub append-at : {X : Type 0} (xs : List (Option X)) (y : Option X) (i : ℕ) (x : X) → get_or xs i None ≡ Some x
    → get_or (xs ++ y ∷ []) i None ≡ Some x
append-at xs y i x e = get_or_append_left xs (y ∷ []) None i (at-some xs i x e) ∙ e

abbrev pub no_record : Record
no_record = record { count = 0; block = 0; live = false }

-- a handle that is lent stays where another one, that isn't, is changed
pub lent-stays : (s : State) (h : ℕ) (o : Option Handle) → is_lent h s.calls ≡ false → (i : ℕ) (x : Handle) → is_lent i s.calls ≡ true
    → handle_at s i ≡ Some x → get_or (set s.handles h o) i None ≡ Some x
lent-stays s h o free i x lent at = get_or-set_other s.handles h i o None (λ e. let q = rw e at lent in absurd (cc)) ∙ at

-- ---- facts that a change leaves

-- blocks that keep having users or none
pub block-log-alike : {bs : List Block} {log : List Freed} {used used' : ℕ → ℕ}
    → ((b : ℕ) → b < length bs → nat_eq (used' b) 0 ≡ nat_eq (used b) 0)
    → LogsBlocks bs log used → LogsBlocks bs log used'
block-log-alike e k = record {
  freed = λ b l. rw (e b l) (k.freed b l);
  known = k.known;
  once = k.once;
  many = k.many;
}

-- a record that fits goes on to fit where fewer handles describe its block, among no fewer blocks
pub fits-fewer : {v : Record} {b c m h u d e : ℕ} → FitsRecord v b m h u d → b ≤ c → e ≤ d → FitsRecord v c m h u e
fits-fewer k more few = record {
  known = omega (arith, k.known, more);
  one_maker = k.one_maker;
  counts = k.counts;
  fresh = k.fresh;
  used = k.used;
  undescribed = λ z. omega (arith, few, k.undescribed z);
}

-- other numbers of entries are in size where they are few
pub sized : {bits most a b c d a' b' c' d' : ℕ} → IsInSize bits most a b c d → a' ≤ 2 ^ 32 → b' ≤ 2 ^ 32 → c' ≤ 2 ^ 32 → d' ≤ 2 ^ 32
    → IsInSize bits most a' b' c' d'
sized k a b c d = record { wide = k.wide; ceiling = k.ceiling; few_blocks = a; few_records = b; few_handles = c; few_calls = d }

-- another table of records, other handles and calls
abbrev pub changed : State → List Record → List (Option Handle) → List (Option Pending) → List ℕ → State
changed s rs hs cs log = record s { tables = record s.tables { records = rs }; handles = hs; calls = cs; freed_records = log }

-- other records, handles and calls that fit keep the machine sound, where blocks keep their holders and users
pub sound-same : (s : State) (rs : List Record) (hs : List (Option Handle)) (cs : List (Option Pending)) (log : List ℕ) → IsSound s
    → IsInSize (1 + s.tables.align_bits + s.tables.tail_bits + s.tables.size_bits) s.ceiling (length s.tables.blocks) (length rs)
    (length hs) (length cs)
    → All (Fits (record s.tables { records = rs }) cs) hs → All (FitsCall (changed s rs hs cs log)) cs
    → ((b : ℕ) → tally (releases (record s.tables { records = rs }) b) cs ≤ 1)
    → ((b : ℕ) → holders (reading (changed s rs hs cs log)) b ≡ holders (reading s) b)
    → ((b : ℕ) → users (reading (changed s rs hs cs log)) b ≡ users (reading s) b)
    → ((r : ℕ) → (get_or rs r no_record).live ≡ true → FitsRecord (get_or rs r no_record) (length s.tables.blocks) (hidden cs r)
    (holders (reading s) (get_or rs r no_record).block) (users (reading s) (get_or rs r no_record).block)
    (tally (describes (record s.tables { records = rs }) (get_or rs r no_record).block) hs))
    → ((q r : ℕ) → (get_or rs q no_record).live ≡ true → (get_or rs r no_record).live ≡ true → hidden cs q ≡ 0 → hidden cs r ≡ 0
    → (get_or rs q no_record).block ≡ (get_or rs r no_record).block → q ≡ r)
    → ((b : ℕ) → 0 < tally (alone (record s.tables { records = rs }) b) hs → holders (reading s) b ≡ 1) → LogsRecords rs log
    → IsSound (changed s rs hs cs log)
sound-same s rs hs cs log k size fit calls one hm um counted shown sole records = record {
  size = size;
  blocks = k.blocks;
  fit = fit;
  calls_fit = calls;
  one_release = one;
  counted = λ r l. rw (hm, um) (counted r l);
  one_record = shown;
  sole = λ b p. rw hm (sole b p);
  capped = λ b. rw hm (k.capped b);
  known_users = λ b e. k.known_users b (rw um at e);
  block_log = block-log-alike (λ b l. ap (λ n. nat_eq n 0) (um b)) k.block_log;
  record_log = records;
}

-- other handles that fit keep the machine sound, where blocks keep their holders and users, no more of them describe a block,
-- those that must be alone are, and those that calls borrow stay
pub sound-handles : (s : State) (hs : List (Option Handle)) → IsSound s → length hs ≤ 2 ^ 32 → All (Fits s.tables s.calls) hs
    → ((b : ℕ) → tally (held_by s.tables b) hs ≡ tally (held_by s.tables b) s.handles)
    → ((b : ℕ) → tally (describes s.tables b) hs ≤ tally (describes s.tables b) s.handles)
    → ((b : ℕ) → 0 < tally (alone s.tables b) hs → holders (reading s) b ≡ 1)
    → ((i : ℕ) (x : Handle) → is_lent i s.calls ≡ true → handle_at s i ≡ Some x → get_or hs i None ≡ Some x)
    → IsSound (record s { handles = hs })
sound-handles s hs k few fit held dm sole stay =
    let next : State = record s { handles = hs } in
    let hm : (b : ℕ) → holders (reading next) b ≡ holders (reading s) b = λ b. omega (arith, holders-as s b, holders-as next b, held b) in
    sound-same s _ _ _ _ k (sized k.size k.size.few_blocks k.size.few_records few k.size.few_calls)
    fit
    (calls-kept next k refl (keeps-self s.tables) (λ r t. t) stay (λ i d l q j t. refl) (λ b l. hm b))
    k.one_release hm (λ b. omega (arith, users-as s b, users-as next b, held b))
    (λ r live. fits-fewer (k.counted r live) (omega arith) (dm (record_at s.tables r).block))
    k.one_record
    (λ b p. sole b p) k.record_log

-- a handle without block more
pub sound-detached : (s : State) (x : Handle) → IsSound s → x.word ≡ Empty → FitsWord s.tables s.calls x x.word → length s.handles < 2 ^ 32
    → IsSound (with_handle s x)
sound-detached s x k e f l =
    let o = owner-empty s.tables x e in
    sound-handles s (s.handles ++ Some x ∷ []) k (rw length-append (omega arith))
    (All-push (Fits s.tables s.calls) s.handles (Some x) k.fit f)
    (λ b. rw count-append (rw o (omega arith))) (λ b. rw count-append (rw o (omega arith)))
    (λ b h. k.sole b (let z = rw (count-append (alone s.tables b) s.handles (Some x), o) at h in omega (arith, z)))
    (λ i y b a. append-at s.handles (Some x) i y a)

-- where a change makes a handle that must be alone, its block has one holder; else there are no more such handles than before
pub alone-edited : {P : Type 0} (g : Tables) (hs : List (Option Handle)) (h : ℕ) (y : Handle) (b : ℕ) → h < length hs
    → (0 < tally (alone g b) hs → P) → (alone g b (Some y) ≡ true → P) → 0 < tally (alone g b) (set hs h (Some y)) → P
alone-edited {P} g hs h y b l old new p =
    let e = count-set (alone g b) hs h (Some y) None l in
    elim (cases_Bool (alone g b (Some y))) [ inl t ↦ new t | inr f ↦ old (let n = rw f at e in omega (arith, n, p)) ]

-- a handle is changed, and holds what it held
pub sound-edited : (s : State) (h : ℕ) (x y : Handle) → IsSound s → handle_at s h ≡ Some x → is_lent h s.calls ≡ false
    → owner_of s.tables y ≡ owner_of s.tables x → ((b : ℕ) → describes s.tables b (Some y) ≡ describes s.tables b (Some x))
    → ((b : ℕ) → alone s.tables b (Some y) ≡ true → holders (reading s) b ≡ 1) → FitsWord s.tables s.calls y y.word → IsSound (edited s h y)
sound-edited s h x y k at free o same only f =
    let l = at-some s.handles h x at in
    sound-handles s (set s.handles h (Some y)) k (rw length-set k.size.few_handles)
    (All-set (Fits s.tables s.calls) s.handles h (Some y) f k.fit)
    (λ b. let e = rw (at, o) at (count-set (held_by s.tables b) s.handles h (Some y) None l) in omega (arith, e))
    (λ b. let e = rw (at, same b) at (count-set (describes s.tables b) s.handles h (Some y) None l) in omega (arith, e))
    (λ b p. alone-edited s.tables s.handles h y b l (k.sole b) (only b) p) (lent-stays s h (Some y) free)
