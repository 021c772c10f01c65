-- A step by the step tables never replies `Room`, and adds at most one entry to each table.
use Rattle.iobufs_owner.proofs.Base.{◌≡◌, ℕ, ◌+◌, ◌-◌, ◌^◌, ◌≤◌, arith, Bool, true, false, cond, nat_lt, nat_eq, [], ◌∷◌, length, length-append, Option, Some, None, refl, sym, length-set, append-nil, Freed, Handle, View, Mut, Word, Empty, Descriptor, Counted, Share, Call, New, External, Static, Act, Begin, Go, Step, Pending, Loaded, Ready, Add, Subtract, Release, Refusal, Busy, Idle, WrongKind, Borrowed, OutOfRange, BadPlace, Memory, Ceiling, Room, Reply, Refused, State, KeepsLogs, handle_at, call_at, record_at, block_at, recovered, triple, Outcome, refused, gone_on, new_blocks, log_of, moved_at, begun, moved, asked, List, ap, ◌∙◌, Ok, Err, is_lent, not, same_kind, ◌&&◌, Advance, Clone, Demote, Drop, Freeze, IsUnique, Put, Slice, SplitTo, TryIntoMut}
use Rattle.iobufs_owner.specs.Changes as change
use Rattle.iobufs_owner.specs.Lending as lending
use Rattle.iobufs_owner.specs.ShortCalls as short
use Rattle.iobufs_owner.specs.LongCalls as long

-- ---- steps that add a block

abbrev pub makes_block : Call → Bool
makes_block (New base size align) = true
makes_block (External base size) = true
makes_block call = false

abbrev pub adds_block : Act → Bool
adds_block (Begin call memory) = makes_block call
adds_block (Go memory) = false

-- how many blocks a step adds, by whether it adds one
pub blocks-made : (act : Act) → new_blocks act ≡ cond (adds_block act) 1 0
blocks-made (Begin (New base size align) memory) = refl
blocks-made (Begin (External base size) memory) = refl
blocks-made act = refl

-- at most one entry more in the tables of handles and of records; a block more only where a step makes one; the logs are
-- written on
pub record IsModest (s : State) (block : Bool) (o : Outcome) : Type 0 where
  pub answers : o.reply ≡ Refused Room → ⊥
  pub handles : length o.state.handles ≤ length s.handles + 1
  pub records : length o.state.tables.records ≤ length s.tables.records + 1
  pub blocks : length o.state.tables.blocks ≤ length s.tables.blocks + cond block 1 0
  pub logs : KeepsLogs s o.state

-- no log has changed
pub logs-same : (s : State) → KeepsLogs s s
logs-same s = (([], sym (append-nil s.freed_blocks)), ([], sym (append-nil s.freed_records)))

-- one entry more in a log, or in both
logs-block : (s : State) (f : Freed) → KeepsLogs s (change.block_freed s f)
logs-block s f = ((f ∷ [], refl), ([], sym (append-nil s.freed_records)))

logs-record : (s : State) (r : ℕ) → KeepsLogs s (change.record_freed s r)
logs-record s r = (([], sym (append-nil s.freed_blocks)), (r ∷ [], refl))

logs-both : (s : State) (r : ℕ) → KeepsLogs s (change.both_freed s r)
logs-both s r = ((triple (block_at s.tables (record_at s.tables r).block) ∷ [], refl), (r ∷ [], refl))

either : {s : State} {block : Bool} {a b : Outcome} (v : Bool) → IsModest s block a → IsModest s block b → IsModest s block (cond v a b)
either true p q = p
either false p q = q

-- whether a reply is the refusal for want of room
abbrev is_room : Reply → Bool
is_room (Refused Room) = true
is_room reply = false

-- ---- small changes

-- no entry more but a record, perhaps
small : {s u : State} {reply : Reply} {block : Bool} → is_room reply ≡ false → length u.handles ≡ length s.handles
    → length u.tables.records ≤ length s.tables.records + 1 → length u.tables.blocks ≡ length s.tables.blocks → KeepsLogs s u
    → IsModest s block (record { reply = reply; state = u })
small n h r b g =
    record {
      answers = λ e. (let z = sym n ∙ ap is_room e in cc);
      handles = omega (arith, h);
      records = r;
      blocks = omega
          (arith, b);
      logs = g;
    }

-- nothing but calls changes, or nothing at all
calls : {s : State} {block : Bool} {reply : Reply} (cs : List (Option Pending)) → is_room reply ≡ false
    → IsModest s block (record { reply = reply; state = record s { calls = cs } })
calls {s} cs n = small n refl (omega arith) refl (logs-same s)

refuses : {s : State} {block : Bool} (why : Refusal) → is_room (Refused why) ≡ false → IsModest s block (refused s why)
refuses {s} why n = calls s.calls n

-- one handle more than u has
made : {s : State} {block : Bool} (u : State) (x : Handle) → u.freed_blocks ≡ s.freed_blocks → u.freed_records ≡ s.freed_records
    → length u.handles ≡ length s.handles → length u.tables.records ≤ length s.tables.records + 1
    → length u.tables.blocks ≤ length s.tables.blocks + cond block 1 0 → IsModest s block (change.made u x)
made {s} u x e f h r b =
    record {
      answers = λ e. absurd (cc);
      handles = rw length-append (omega (arith, h));
      records = r;
      blocks = b;
      logs = rw (e, f)
          (logs-same s);
    }

-- ---- calls that end with their first step

-- a new block where one may be, if memory is granted
granted : {s : State} {o : Outcome} (v memory : Bool) → IsModest s true o
    → IsModest s true (cond v (cond memory o (refused s Memory)) (refused s BadPlace))
granted v memory m = either v (either memory m (refuses Memory refl)) (refuses BadPlace refl)

edited : {s : State} (h : ℕ) (x : Handle) → IsModest s false (change.done (change.edited s h x))
edited {s} h x = small refl (length-set _ _ _) (omega arith) refl (logs-same s)

-- a call on a handle, for what it does with the handle
lent : {s : State} (test : Handle → Bool) (b : Bool) (o : Option Handle) (f : Handle → Outcome) → ((x : Handle) → IsModest s false (f x))
    → IsModest s false (change.on_lent s (asked test b o) f)
lent test b None f m = refuses _ refl
lent {s} test b (Some x) f m = elim (test x) as (λ v. IsModest s false
    (change.on_lent s (cond v (cond b (Err Borrowed) (Ok x)) (Err WrongKind)) f)) [
      | true ↦ elim b as (λ v. IsModest s false (change.on_lent s (cond v (Err Borrowed) (Ok x)) f))
          [ true ↦ refuses Borrowed refl | false ↦ m x ]
      | false ↦ refuses WrongKind refl
    ]

lent-alone : {s : State} (test : Handle → Bool) (h : ℕ) (f : Handle → Outcome) → ((x : Handle) → IsModest s false (f x))
    → IsModest s false (change.on_lent s (asked test (is_lent h s.calls) (handle_at s h)) f)
lent-alone {s} test h f m = lent test (is_lent h s.calls) (handle_at s h) f m

-- freeing the block of a handle takes no entry out of a table, and adds none
freed : {s : State} (h : ℕ) (x : Handle) (o : Option Handle) (w : Word)
    → IsModest s false (change.done (change.replaced (short.freed_with s x w) h o))
freed {s} h x o Empty = small refl (length-set _ _ _) (omega arith) refl (logs-same s)
freed {s} h x o (Descriptor w) = small refl (length-set _ _ _) (omega arith) refl (logs-block s (recovered s.tables x w))
freed {s} h x o (Counted r) = small refl (length-set _ _ _) (rw length-set (omega arith)) refl (logs-both s r)

freeze-by : {s : State} (h : ℕ) (memory : Bool) (x : Handle) (w : Word) → IsModest s false (short.freeze_by s h memory x w)
freeze-by {s} h memory x (Descriptor w) = either (nat_lt (x.cap - x.len) (2 ^ s.tables.tail_bits)) (edited h _)
    (either memory (small refl (length-set _ _ _) (rw length-append (omega arith)) refl (logs-same s)) (refuses Memory refl))
freeze-by h memory x Empty = edited h _
freeze-by h memory x (Counted r) = edited h _

recover-by : {s : State} (h : ℕ) (x : Handle) (w : Word) → IsModest s false (short.recover_by s h x w)
recover-by {s} h x Empty = either (nat_eq x.len 0) (edited h _) (calls s.calls refl)
recover-by h x (Descriptor w) = edited h _
recover-by {s} h x (Counted r) = either (block_at s.tables (record_at s.tables r).block).external (calls s.calls refl)
    (either (nat_eq (record_at s.tables r).count 1) (edited h _) (calls s.calls refl))

split-by : {s : State} (h at : ℕ) (memory : Bool) (x : Handle) (w : Word) → IsModest s false (short.split_by s h at memory x w)
split-by h at memory x Empty = made _ _ refl refl (length-set _ _ _) (omega arith) (omega arith)
split-by h at memory x (Descriptor w) =
    either memory (made _ _ refl refl (length-set _ _ _) (rw length-append (omega arith)) (omega arith)) (refuses Memory refl)
split-by h at memory x (Counted r) =
    either _ (refuses Ceiling refl) (made _ _ refl refl (length-set _ _ _) (rw length-set (omega arith)) (omega arith))

demote-by : {s : State} (h : ℕ) (x : Handle) (w : Word) → IsModest s false (short.demote_by s h x w)
demote-by {s} h x (Counted r) = either (short.may_demote s.tables x r)
    (small refl (length-set _ _ _) (rw length-set (omega arith)) refl (logs-record s r)) (calls s.calls refl)
demote-by {s} h x Empty = calls s.calls refl
demote-by {s} h x (Descriptor w) = calls s.calls refl

-- ---- calls of several steps

share-by : {s : State} (p : ℕ) (k : Share) (x : Handle) (w : Word) → IsModest s false (long.share_by s p k x w)
share-by {s} p k x Empty = made s _ refl refl refl (omega arith) (omega arith)
share-by p k x (Descriptor w) = calls _ refl
share-by p k x (Counted r) = calls _ refl

drop-by : {s : State} (p h : ℕ) (x : Handle) (w : Word) → IsModest s false (long.drop_by s p h x w)
drop-by {s} p h x (Counted r) = elim x.kind as (λ kind. IsModest s false (long.drop_counted s p h r kind))
    [ Mut ↦ freed h x None (Counted r) | View ↦ small refl (length-set _ _ _) (omega arith) refl (logs-same s) ]
drop-by h p x Empty = freed p x None Empty
drop-by h p x (Descriptor w) = freed p x None (Descriptor w)

race-modest : {s : State} (p : ℕ) (k : Share) (w r : ℕ) (x : Handle) (word : Word) → IsModest s false (long.race_by s p k w r x word)
race-modest {s} p k w r x (Counted winner) = small refl refl (rw length-set (omega arith)) refl (logs-record s r)
race-modest p k w r x (Descriptor now) = either (nat_eq now w) (made _ _ refl refl (length-set _ _ _) (omega arith) (omega arith))
    (calls _ refl)
race-modest p k w r x Empty = calls _ refl

-- ---- a step

goes-modest : {s : State} (p : ℕ) (c : Pending) (memory : Bool) → IsModest s false (gone_on s p c memory)
goes-modest {s} p (Loaded k w) memory = either memory (small refl refl (rw length-append (omega arith)) refl (logs-same s)) (calls _ refl)
goes-modest {s} p (Ready k w r) memory = race-modest p k w r (long.borrowed s k) (long.borrowed s k).word
goes-modest {s} p (Add k r) memory = either (nat_lt s.ceiling (record_at s.tables r).count) (calls _ refl)
    (made _ _ refl refl refl (rw length-set (omega arith)) (omega arith))
goes-modest {s} p (Subtract r) memory = either (nat_eq (record_at s.tables r).count 1)
    (small refl refl (rw length-set (omega arith)) refl (logs-same s))
    (small refl refl (rw length-set (omega arith)) refl (logs-same s))
goes-modest {s} p (Release r) memory = small refl refl (rw length-set (omega arith)) refl (logs-both s r)

begun-modest : {s : State} (p : ℕ) (call : Call) (memory : Bool) → IsModest s (makes_block call) (begun s p call memory)
begun-modest {s} p (New base size align) memory = granted _ memory (either (short.fits_in s.tables size (log_of align) 0)
    (made _ _ refl refl refl (omega arith) (rw length-append (omega arith)))
    (made _ _ refl refl refl (rw length-append (omega arith)) (rw length-append (omega arith))))
begun-modest p (External base size) memory =
    granted _ memory (made _ _ refl refl refl (rw length-append (omega arith)) (rw length-append (omega arith)))
begun-modest {s} p (Static len) memory = made s _ refl refl refl (omega arith) (omega arith)
begun-modest p (Put h n) memory = lent-alone (λ x. same_kind x.kind Mut) h _
    (λ x. either (nat_lt (x.cap - x.len) n) (refuses OutOfRange refl) (edited h _))
begun-modest p (Advance h n) memory = lent-alone (λ x. true) h _ (λ x. either (nat_lt x.len n) (refuses OutOfRange refl) (edited h _))
begun-modest p (Freeze h) memory = lent-alone (λ x. same_kind x.kind Mut) h _
    (λ x. either (nat_eq x.len 0) (freed h x _ x.word) (freeze-by h memory x x.word))
begun-modest p (TryIntoMut h) memory = lent-alone (λ x. same_kind x.kind View) h _ (λ x. recover-by h x x.word)
begun-modest {s} p (SplitTo h at) memory = lent-alone (λ x. same_kind x.kind View) h _
    (λ x. either (nat_lt x.len at) (refuses OutOfRange refl)
    (either (nat_eq at 0) (made s _ refl refl refl (omega arith) (omega arith))
    (either (nat_eq at x.len) (made (change.edited s h (change.detached_handle 0)) _ refl refl (length-set _ _ _) (omega arith)
    (omega arith))
    (split-by h at memory x x.word))))
begun-modest {s} p (IsUnique h) memory = lent-alone (λ x. not (lending.is_empty x.word)) h _ (λ x. calls s.calls refl)
begun-modest p (Demote h) memory = lent-alone (λ x. same_kind x.kind View && not (lending.is_empty x.word)) h _ (λ x. demote-by h x x.word)
begun-modest {s} p (Clone h) memory = lent (λ x. same_kind x.kind View) false (handle_at s h) _ (λ x. share-by p _ x x.word)
begun-modest {s} p (Slice h lo hi) memory = lent (λ x. same_kind x.kind View) false (handle_at s h) _
    (λ x. either _ (refuses OutOfRange refl)
    (either (nat_eq lo hi) (made s _ refl refl refl (omega arith) (omega arith)) (share-by p _ x x.word)))
begun-modest p (Drop h) memory = lent-alone (λ x. true) h _ (λ x. drop-by p h x x.word)

at-modest : {s : State} (p : ℕ) (act : Act) (c : Option Pending) → IsModest s (adds_block act) (moved_at s p act c)
at-modest p (Begin call memory) None = begun-modest p call memory
at-modest p (Begin call memory) (Some c) = refuses Busy refl
at-modest p (Go memory) None = refuses Idle refl
at-modest p (Go memory) (Some c) = goes-modest p c memory

-- A step by the step tables never replies `Room`, and appends to the logs if it changes them. The step adds at most a
-- handle, a record and, if its call makes one, a block.
pub modest : (s : State) (step : Step) → IsModest s (adds_block step.act) (moved s step)
modest s step =
    either (nat_lt step.thread (length s.calls)) (at-modest step.thread step.act (call_at s step.thread)) (refuses Idle refl)
