-- No command leaves another choice open, and what a refusal leaves.
use Rattle.std.proofs.Common.{◌≡◌, ◌≢◌, ℕ, zero, suc, ◌⊎◌, inl, inr, true, false, IsTrue, Some, None, Ok, Err, List, [], ◌∷◌, length, ap, sym, refl, ◌∙◌}
use Rattle.iobufs_core.specs.MarkedText.{MarkedText, taken_view}
use Rattle.iobufs_core.specs.Spelling.{spell}
use Rattle.iobufs_core.specs.View.{View as ViewValue}
use Rattle.iobufs_core.specs.Wire.{IsViewRead}
use Rattle.iobufs_core.specs.declared.codec.base.Error.TheVariants as fault
use Rattle.iobufs_core.specs.declared.codec.base.RangeCfg.{RangeCfg}
use Rattle.iobufs_core.specs.declared.codec.base.Error.{Error}
use Rattle.iobufs_core.specs.ReadLaws.{views_alike}
use Rattle.iobufs_core.specs.Spelled.{spelled_as_one}
use Rattle.iobufs_run.specs.declared.table.Slot.{Slot}
use Rattle.iobufs_run.specs.declared.table.Slot.TheVariants.{Free, View}
use Rattle.iobufs_run.specs.declared.command.Cmd.{Cmd}
use Rattle.iobufs_run.specs.declared.command.Cmd.TheVariants.{Adopt, Recover, Decode, Show}
use Rattle.iobufs_run.specs.declared.command.Reply.{Reply}
use Rattle.iobufs_run.specs.declared.command.Reply.TheVariants.{Done, Bytes, Shown, Refused}
use Rattle.iobufs_run.specs.declared.command.Refusal.{Refusal}
use Rattle.iobufs_run.specs.declared.command.Refusal.TheVariants.{Codec, Memory}
use Rattle.std.specs.Prelude.{slice_set}
use Rattle.iobufs_run.specs.Causes.{is_listed, refusal_for}
use Rattle.iobufs_run.specs.Choices.{is_other_refusal, is_want_of_memory, NoOtherChoices, OnlyWants, RefusalsKeep, SameOutcome, SameReply}
use Rattle.iobufs_run.specs.Slots.{slot_named, marked_held, slot_read, IsShown}
use Rattle.iobufs_run.specs.Run.{consumed, Does, Gives, IsFault, MayFail, MayWantMemory, Step, with_bytes}

true_not_false : true ≡ false → ⊥
true_not_false e = cc

-- ---- reading a view

read_same : (text : MarkedText) (range : RangeCfg) (view other : ViewValue) → IsViewRead text range (Ok view)
    → IsViewRead text range (Ok other) → view ≡ other
read_same text range view other d e =
    let (n, ((spelled, ranged), fits), is) = d in
    let (m, ((spelled', ranged'), fits'), is') = e in
    let same = spelled_as_one text.bytes n m spelled spelled' in
    is ∙ ap (λ (n : ℕ). taken_view text (length (spell n)) n) same ∙ sym is'

-- a fault that reading meets is another than want of memory
pub record IsMet (text : MarkedText) (range : RangeCfg) (r : Refusal) : Type 0 where
  pub error : Error
  pub told : r ≡ Codec error
  pub known : error ≢ fault.Memory
  pub met : IsViewRead text range (Err error)

fault_met : (text : MarkedText) (range : RangeCfg) (r : Refusal) → IsFault text range r → IsMet text range r
fault_met text range (Codec fault.EndOfBuffer) f = record { error = fault.EndOfBuffer; told = refl; known = λ e. cc; met = f }
fault_met text range (Codec fault.InvalidVarint) f = record { error = fault.InvalidVarint; told = refl; known = λ e. cc; met = f }
fault_met text range (Codec (fault.InvalidLength n)) f = record { error = fault.InvalidLength n; told = refl; known = λ e. cc; met = f }
fault_met text range r f = absurd f

fault_same : (text : MarkedText) (range : RangeCfg) (r q : Refusal) → IsFault text range r → IsFault text range q → r ≡ q
fault_same text range r q f g =
    let one = fault_met text range r f in
    let two = fault_met text range q g in
    elim (views_alike text text range (Err one.error) (Err two.error) refl one.met two.met) [
      | inl same ↦ one.told ∙ ap (λ (error : Error). Codec error) same ∙ sym two.told
      | inr wanted ↦ elim wanted [ inl memory ↦ absurd (one.known memory) | inr memory ↦ absurd (two.known memory) ]
    ]

fault_not_read : (text : MarkedText) (range : RangeCfg) (r : Refusal) (view : ViewValue) → IsFault text range r
    → IsViewRead text range (Ok view) → ⊥
fault_not_read text range r view f d =
    let one = fault_met text range r f in
    one.known (views_alike text text range (Err one.error) (Ok view) refl one.met d)

-- ---- commands that are done

same_refl : (reply : Reply) → SameReply reply reply
same_refl Done = refl
same_refl (Bytes bytes) = refl
same_refl (Shown kind pieces) = (refl, refl)
same_refl (Refused refusal) = refl

gives_same : (answer : Reply) (left : List Slot) (reply other : Reply) (new another : List Slot) → Gives answer left reply new
    → Gives answer left other another
    → SameReply reply other × (new ≡ another)
gives_same answer left reply other new another d e = (rw (d.0, e.0) (same_refl answer), d.1 ∙ sym e.1)

shown_same : (slot : Slot) (reply other : Reply) → IsShown slot reply → IsShown slot other → SameReply reply other
shown_same slot (Shown kind pieces) (Shown kind' pieces') d e = ((let both = sym d.0 ∙ e.0 in cc), d.1 ∙ sym e.1)
shown_same slot (Shown kind pieces) other d e = absurd e
shown_same slot reply other d e = absurd d

decoded_same : (old : List Slot) (src dst : ℕ) (range : RangeCfg) (reply other : Reply) (new another : List Slot)
    → Does old (Decode src dst range) reply new → Does old (Decode src dst range) other another → SameReply reply other × (new ≡ another)
decoded_same old src dst range reply other new another d e =
    let (view, read, (told, left)) = d in
    let (view', read', (told', left')) = e in
    let same = read_same (marked_held (slot_named old src)) range view view' read read' in (
      rw (told, told') refl,
      left ∙ ap (λ (view : ViewValue). slice_set (slice_set old src (slot_read (slot_named old src) view)) dst (View view))
          same ∙ sym left',
    )

same_is : (old : List Slot) (command : Cmd) (reply other : Reply) (new another : List Slot) → SameReply reply other × (new ≡ another)
    → SameOutcome old command reply other new another
same_is old (Adopt dst bytes) reply other new another same = (same.0, inl same.1)
same_is old (Recover src dst) reply other new another same = inl same
same_is old command reply other new another same = same

set_again : (old : List Slot) (name : ℕ) (slot other : Slot) → slice_set (slice_set old name slot) name other ≡ slice_set old name other
set_again [] name slot other = refl
set_again (s ∷ old) zero slot other = refl
set_again (s ∷ old) (suc name) slot other = ap (λ (names : List Slot). s ∷ names) (set_again old name slot other)

adopted_same : (old : List Slot) (dst : ℕ) (bytes : List ℕ) (reply other : Reply) (new another : List Slot)
    → (spare : ℕ) × Gives Done (with_bytes old dst bytes spare) reply new
    → (spare : ℕ) × Gives Done (with_bytes old dst bytes spare) other another
    → SameReply reply other × ((new ≡ another) ⊎ ((room : ℕ) × (another ≡ with_bytes new dst bytes room)))
adopted_same old dst bytes reply other new another (spare, (told, left)) (spare', (told', left')) =
    (rw (told, told') refl, inr (spare', left' ∙ sym (rw left (set_again old dst _ _))))

does_same : (old : List Slot) (command : Cmd) (reply other : Reply) (new another : List Slot)
    → Does old command reply new → Does old command other another → SameOutcome old command reply other new another
does_same old (Adopt dst bytes) reply other new another d e = adopted_same old dst bytes.items reply other new another d e
does_same old (Recover src dst) reply other new another d e = inl (gives_same _ _ reply other new another d e)
does_same old (Decode src dst range) reply other new another d e = decoded_same old src dst range reply other new another d e
does_same old (Show target) reply other new another d e = (shown_same (slot_named old target) reply other d.0 e.0, d.1 ∙ sym e.1)
does_same old command reply other new another d e = gives_same _ _ reply other new another d e

-- ---- commands that fail

fails_same : (old : List Slot) (command : Cmd) (r q : Refusal) → MayFail old command r → MayFail old command q → r ≡ q
fails_same old (Recover src dst) r q f g = f.0 ∙ sym g.0
fails_same old (Decode src dst range) r q f g = fault_same (marked_held (slot_named old src)) range r q f g
fails_same old command r q f g = absurd f

fails_not_done : (old : List Slot) (command : Cmd) (r : Refusal) (reply : Reply) (new : List Slot) → MayFail old command r
    → Does old command reply new
    → SameOutcome old command (Refused r) reply old new × SameOutcome old command reply (Refused r) new old
fails_not_done old (Recover src dst) r reply new (told, native) (done, left) =
    (inr (native, rw told refl, rw done left), inr (native, rw done left, rw told refl))
fails_not_done old (Decode src dst range) r reply new f (view, read, gives) = absurd
    (fault_not_read (marked_held (slot_named old src)) range r view f read)
fails_not_done old command r reply new f d = absurd f

-- a command that may want memory does not fail
wants_not_fails : (old : List Slot) (command : Cmd) (r : Refusal) → MayWantMemory old command → MayFail old command r → ⊥
wants_not_fails old (Recover src dst) r wants f = wants
wants_not_fails old (Decode src dst range) r (n, there, some) f =
    fault_not_read (marked_held (slot_named old src)) range r (taken_view (marked_held (slot_named old src)) (length (spell n)) n) f
    (n, there, refl)
wants_not_fails old command r wants f = f

-- ---- a step is one of three

-- refused for a cause, failed, or done
pub record IsCaused (old : List Slot) (command : Cmd) (reply : Reply) (new : List Slot) : Type 0 where
  pub refusal : Refusal
  pub told : reply ≡ Refused refusal
  pub stands : refusal_for old command ≡ Some refusal
  pub kept : new ≡ old

pub record IsFailed (old : List Slot) (command : Cmd) (reply : Reply) (new : List Slot) : Type 0 where
  pub refusal : Refusal
  pub told : reply ≡ Refused refusal
  pub none : refusal_for old command ≡ None
  pub may : MayFail old command refusal
  pub kept : new ≡ old

pub record IsDone (old : List Slot) (command : Cmd) (reply : Reply) (new : List Slot) : Type 0 where
  pub none : refusal_for old command ≡ None
  pub does : Does old command reply new

refused_is : (old : List Slot) (command : Cmd) (refusal : Refusal) (new : List Slot)
    → (refusal_for old command ≡ Some refusal) ⊎ ((refusal_for old command ≡ None) × MayFail old command refusal) → new ≡ old
    → IsCaused old command (Refused refusal) new ⊎ IsFailed old command (Refused refusal) new ⊎ IsDone old command (Refused refusal) new
refused_is old command refusal new (inl stands) kept = inl (record { refusal = refusal; told = refl; stands = stands; kept = kept })
refused_is old command refusal new (inr fails) kept = inr
    (inl (record { refusal = refusal; told = refl; none = fails.0; may = fails.1; kept = kept }))

step_is : (old : List Slot) (command : Cmd) (reply : Reply) (new : List Slot) → Step old command reply new → is_want_of_memory reply ≡ false
    → IsCaused old command reply new ⊎ IsFailed old command reply new ⊎ IsDone old command reply new
step_is old command (Refused Memory) new step wanted = absurd (true_not_false wanted)
step_is old command (Refused refusal) new step wanted = refused_is old command refusal new step.0 step.1
step_is old command Done new step wanted = inr (inr (record { none = step.0; does = step.1 }))
step_is old command (Bytes bytes) new step wanted = inr (inr (record { none = step.0; does = step.1 }))
step_is old command (Shown kind pieces) new step wanted = inr (inr (record { none = step.0; does = step.1 }))

refused_same : (r q : Refusal) (reply other : Reply) → reply ≡ Refused r → other ≡ Refused q → r ≡ q → SameReply reply other
refused_same r q reply other one two e = rw (one, two) (ap (λ (refusal : Refusal). Refused refusal) e)

two_same : (old : List Slot) (command : Cmd) (reply other : Reply) (new another : List Slot)
    → IsCaused old command reply new ⊎ IsFailed old command reply new ⊎ IsDone old command reply new
    → IsCaused old command other another ⊎ IsFailed old command other another ⊎ IsDone old command other another
    → SameOutcome old command reply other new another
two_same old command reply other new another (inl a) (inl b) =
    same_is old command reply other new another
    (refused_same a.refusal b.refusal reply other a.told b.told (let both = sym a.stands ∙ b.stands in cc), a.kept ∙ sym b.kept)
two_same old command reply other new another (inl a) (inr (inl b)) = absurd (let both = sym a.stands ∙ b.none in cc)
two_same old command reply other new another (inl a) (inr (inr b)) = absurd (let both = sym a.stands ∙ b.none in cc)
two_same old command reply other new another (inr (inl a)) (inl b) = absurd (let both = sym b.stands ∙ a.none in cc)
two_same old command reply other new another (inr (inl a)) (inr (inl b)) =
    let same = fails_same old command a.refusal b.refusal a.may b.may in
    same_is old command reply other new another (refused_same a.refusal b.refusal reply other a.told b.told same, a.kept ∙ sym b.kept)
two_same old command reply other new another (inr (inl a)) (inr (inr b)) =
    rw (a.told, a.kept) (fails_not_done old command a.refusal other another a.may b.does).0
two_same old command reply other new another (inr (inr a)) (inl b) = absurd (let both = sym b.stands ∙ a.none in cc)
two_same old command reply other new another (inr (inr a)) (inr (inl b)) =
    rw (b.told, b.kept) (fails_not_done old command b.refusal reply new b.may a.does).1
two_same old command reply other new another (inr (inr a)) (inr (inr b)) = does_same old command reply other new another a.does b.does

-- two steps of one command on the same names, neither of them want of memory, have the same outcome, but for the room after
-- adopted bytes and for whether a native view is recovered
pub no_other_choices : NoOtherChoices
no_other_choices old command reply other new another one two wanted wanted' =
    two_same old command reply other new another (step_is old command reply new one wanted) (step_is old command other another two wanted')

-- ---- want of memory, and what a refusal leaves

refused_for_memory : (old : List Slot) (command : Cmd) (refusal : Refusal) (another : List Slot) → refusal_for old command ≡ None
    → MayWantMemory old command
    → (refusal_for old command ≡ Some refusal) ⊎ ((refusal_for old command ≡ None) × MayFail old command refusal) → ⊥
refused_for_memory old command refusal another none wants (inl stands) = (let both = sym stands ∙ none in cc)
refused_for_memory old command refusal another none wants (inr fails) = wants_not_fails old command refusal wants fails.1

done_where_wanted : (old : List Slot) (command : Cmd) (other : Reply) (another : List Slot) → refusal_for old command ≡ None
    → MayWantMemory old command
    → Step old command other another → is_other_refusal other ≡ false
done_where_wanted old command (Refused Memory) another none wants step = refl
done_where_wanted old command (Refused refusal) another none wants step = absurd
    (refused_for_memory old command refusal another none wants step.0)
done_where_wanted old command Done another none wants step = refl
done_where_wanted old command (Bytes bytes) another none wants step = refl
done_where_wanted old command (Shown kind pieces) another none wants step = refl

-- a command that is refused for a failed allocation may want it, has no cause against it, and costs at most what it
-- consumes; it is never refused for anything else
pub only_wants : OnlyWants
only_wants old command new (none, wants, freed) = (
  none,
  wants,
  freed,
  λ other another step. done_where_wanted old command other another none wants step,
)

freed_or_kept : (old new : List Slot) (names : List ℕ) (refusal : Refusal) (name : ℕ) → refusal ≡ Memory
    → (slot_named new name ≡ slot_named old name) ⊎ (IsTrue (is_listed names name) × (slot_named new name ≡ Free))
    → (slot_named new name ≡ slot_named old name) ⊎ ((refusal ≡ Memory) × IsTrue (is_listed names name) × (slot_named new name ≡ Free))
freed_or_kept old new names refusal name memory (inl kept) = inl kept
freed_or_kept old new names refusal name memory (inr freed) = inr (memory, freed.0, freed.1)

-- a refused command leaves what each name holds, but for consumed names that want of memory frees
pub refusals_keep : RefusalsKeep
refusals_keep old command Memory new (none, wants, freed) = (
  freed.0,
  λ name. freed_or_kept old new (consumed command) Memory name refl (freed.1 name),
)
refusals_keep old command refusal new step =
    (ap (λ (names : List Slot). length names) step.1, λ name. inl (ap (λ (names : List Slot). slot_named names name) step.1))
