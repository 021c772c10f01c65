-- Freeze, read as a step of the world.
use Rattle.iobufs_owner.proofs.Base.{NoRoom, ◌≡◌, ◌⊎◌, inl, inr, ℕ, ◌-◌, ◌^◌, Bool, true, nat_lt, length, Option, Some, ap, ◌∙◌, refl, IsSome, length-set, Handle, Record, View, Mut, Word, Empty, Descriptor, Counted, Reply, Done, State, Tables, owner_of, owned_by, handle_at, record_at, retailed, World, reading, read_held, read_handle, IsSound, next_record, tables_without, both_freed, replaced, Lends, frozen, promoted, Denied, GrantedNoRoom, free_in, free_of, held_set, IsAnswered, entries, calls-read-kept, owner-empty, owner-counted, handles-kept, described-at, counted-at, within, owner-redescribed, base-frozen, freed-more, ltb-true}
use Rattle.iobufs_owner.specs.ShortCalls as short
use Rattle.iobufs_owner.proofs.Soundness.{dead-keeps, dead-let_go, recovered-is, recorded, recorded-new}
use Rattle.iobufs_owner.proofs.WorldSteps.Taken.{same-taken, grown-taken, edit-taken, replaced-in, recorded-in, either-taken}

-- ---- a handle that lets its block go

-- users see a record and its block freed as the block freed
pub both-in : (s : State) (r : ℕ) → IsSound s → (record_at s.tables r).live ≡ true
    → reading (both_freed s r) ≡ free_in (reading s) (record_at s.tables r).block
both-in s r k live = rw (
  freed-more s.tables s.freed_blocks (record_at s.tables r).block k.blocks (k.counted r live).known,
  handles-kept s.tables (tables_without s.tables r) s.calls s.handles (dead-keeps s.tables r) k.fit,
  calls-read-kept s (tables_without s.tables r) s.calls (dead-keeps s.tables r) (dead-let_go s.tables r _) k.calls_fit,
) refl

-- users see the block of a handle that lets go, if any, as freed
pub freed-in : (s : State) (h : ℕ) (x : Handle) (w : Word) → IsSound s → handle_at s h ≡ Some x → x.word ≡ w
    → reading (short.freed_with s x w) ≡ free_of (reading s) (owner_of s.tables x)
freed-in s h x Empty k at w = rw (owner-empty s.tables x w) refl
freed-in s h x (Descriptor v) k at w =
    let d = described-at s h x v k at w in
    rw (
      d.says.owner,
      recovered-is s h x v d.block k at w d.says.owner,
      freed-more s.tables s.freed_blocks d.block k.blocks d.says.known,
    ) refl
freed-in s h x (Counted r) k at w = rw (owner-counted s.tables x r w) (both-in s r k (counted-at s h x r k at w).live)

-- a handle that lets go adds no entry
pub freed-entries : (s : State) (h : ℕ) (x : Handle) (o : Option Handle) (w : Word)
    → entries (replaced (short.freed_with s x w) h o) ≡ entries s
freed-entries s h x o Empty = simp length-set
freed-entries s h x o (Descriptor v) = simp length-set
freed-entries s h x o (Counted r) = simp length-set

-- ---- a handle whose descriptor becomes a record

-- a handle with the new record is one of the block that the handle with the descriptor holds
pub promoted-owner : (g : Tables) (n b : ℕ) (x y : Handle) → owner_of g x ≡ Some b → y.word ≡ Counted (length g.records)
    → owner_of (recorded g n (owned_by g x)) y ≡ owner_of g x
promoted-owner g n b x y o e = owner-counted (recorded g n (owned_by g x)) y (length g.records) e
    ∙ ap (λ (v : Record). Some v.block) (recorded-new g n (owned_by g x)) ∙ rw o refl

-- the effect of freezing a handle that has bytes, in the abstract state
abbrev Freezes : State → ℕ → Handle → Bool → Reply → World → Type 0
Freezes s h x memory reply next =
    Denied (reading s) (owner_of s.tables x) memory reply next
    ⊎ GrantedNoRoom (reading s) (owner_of s.tables x) memory reply next
    ⊎ ((reply ≡ Done) × (next ≡ held_set (reading s) h (record (read_held s.tables x) { kind = View })))

-- freezing a handle that has bytes has that effect
pub freeze-word : {s t : State} {reply : Reply} (h : ℕ) (x : Handle) (memory : Bool) (w : Word) → IsSound s → Lends s h Mut x → x.word ≡ w
    → IsAnswered s (short.freeze_by s h memory x w) reply t → Freezes s h x memory reply (reading t)
freeze-word {s} h x memory Empty k l w i =
    inr (inr (edit-taken h (frozen x Empty) (rw (owner-empty s.tables (frozen x Empty) refl, owner-empty s.tables x w) refl) i))
freeze-word {s} {t} {reply} h x memory (Descriptor v) k l w i =
    let d = described-at s h x v k l.at w in
    let some : IsSome (owner_of s.tables x) = rw d.says.owner refl in
    either-taken (nat_lt (x.cap - x.len) (2 ^ s.tables.tail_bits)) (λ e i.
    let y : Handle = frozen x (Descriptor (retailed s.tables v (x.cap - x.len))) in
    let o = owner-redescribed s.tables x y v (retailed s.tables v (x.cap - x.len)) w refl
    (base-frozen s.tables x v d.block d.log d.tail l.kind_is (within s h x k l.at l.kind_is) d.says
    (ltb-true (x.cap - x.len) (2 ^ s.tables.tail_bits) e)) in
    inr (inr (edit-taken h y (rw o refl) i))) (λ _ i. either-taken memory (λ m i.
    let y : Handle = frozen x (Counted (next_record s)) in
    let z : read_handle (recorded s.tables 1 (owned_by s.tables x)) (Some y) ≡ Some (record (read_held s.tables x) { kind = View }) =
    rw (promoted-owner s.tables 1 d.block x y d.says.owner refl) refl in
    let q : NoRoom (reading s) reply (reading t) ⊎
    ((reply ≡ Done) × (reading t ≡ held_set (reading s) h (record (read_held s.tables x) { kind = View }))) =
    grown-taken (replaced-in (promoted s x 1) h (Some y) (recorded-in s 1 (owned_by s.tables x) k) z) i in elim q
    [ inl a ↦ inr (inl (record { some = some; granted = m; no_room = a })) | inr a ↦ inr (inr a) ])
    (λ m i. inl (record { some = some; denied = m; refuses = same-taken i })) i) i
freeze-word {s} h x memory (Counted r) k l w i =
    inr (inr (edit-taken h (frozen x (Counted r)) (rw
    (owner-counted s.tables (frozen x (Counted r)) r refl, owner-counted s.tables x r w) refl) i))
