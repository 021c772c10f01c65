-- TryIntoMut and IsUnique, read as steps of the world.
use Rattle.iobufs_owner.proofs.Base.{on_lent, ◌≡◌, ◌⊎◌, inl, inr, ℕ, ◌+◌, ◌-◌, true, nat_eq, Option, Some, Ok, Err, ap, sym, ◌∙◌, subst, refl, Handle, Kind, View, Mut, Word, Empty, Descriptor, Counted, Reply, Done, Unique, State, owner_of, handle_at, record_at, block_at, tail_in, retailed, World, holders, is_block, reading, read_held, IsSound, Lends, thawed, is_unique, Declines, MayRecover, held_set, IsAnswered, owner-empty, owner-counted, eq-eqb, described-at, counted-at, alone-at, alone-described, alone-written, owner-redescribed, base-thawed, eqb-true, is_empty, not}
use Rattle.iobufs_owner.specs.Lending as lending
use Rattle.iobufs_owner.specs.ShortCalls as short
use Rattle.iobufs_owner.proofs.WorldSteps.Taken.{same-taken, edit-taken, either-taken}

-- ---- TryIntoMut

-- the effect of a recovery in the abstract state, by the block that the view holds
abbrev Recovers : State → ℕ → Handle → Option ℕ → Reply → World → Type 0
Recovers s h x o reply next =
    (MayRecover (reading s) (read_held s.tables x) o × (reply ≡ Done)
    × (next ≡ held_set (reading s) h (record (read_held s.tables x) { kind = Mut })))
    ⊎ ((MayRecover (reading s) (read_held s.tables x) o → ⊥) × Declines (reading s) reply next)

-- a recovery has that effect
pub recover-word : {s t : State} {reply : Reply} (h : ℕ) (x : Handle) (w : Word) → IsSound s → Lends s h View x → x.word ≡ w
    → IsAnswered s (short.recover_by s h x w) reply t → Recovers s h x (owner_of s.tables x) reply (reading t)
recover-word {s} h x Empty k l w i =
    let n = owner-empty s.tables x w in
    let y : Handle = thawed x 0 Empty in
    rw n (either-taken (nat_eq x.len 0)
    (λ e i. let q = edit-taken {z = record (read_held s.tables x) { kind = Mut }} h y (rw (owner-empty s.tables y refl, n) refl) i in
    inl (eqb-true x.len 0 e, q.0, rw n at q.1)) (λ e i. inr (λ z. (let q = eq-eqb x.len 0 z in cc), same-taken i)) i)
recover-word {s} {t} {reply} h x (Descriptor v) k l w i =
    let d = described-at s h x v k l.at w in
    let y : Handle = thawed x (x.len + tail_in s.tables v) (Descriptor (retailed s.tables v 0)) in
    let o = owner-redescribed s.tables x y v (retailed s.tables v 0) w refl
    (base-thawed s.tables x v d.block d.log d.tail l.kind_is d.says) in
    let one = alone-at s h x d.block k l.at (alone-described s.tables d.block x v w ∙ ap (is_block d.block) d.says.owner
    ∙ eq-eqb d.block d.block refl) in
    let q = edit-taken {z = record (read_held s.tables x) { kind = Mut }} h y (rw o refl) i in
    subst (λ (o : Option ℕ). Recovers s h x o reply (reading t)) (sym d.says.owner) (inl ((d.says.native, one), q.0, q.1))
recover-word {s} {t} {reply} h x (Counted r) k l w i =
    let c = counted-at s h x r k l.at w in
    let n = (k.counted r c.live).counts c.shown in
    let bl = block_at s.tables (record_at s.tables r).block in
    let y : Handle = thawed x (bl.base + bl.size - x.ptr) (Counted r) in
    let o = owner-counted s.tables x r w in
    subst (λ (o : Option ℕ). Recovers s h x o reply (reading t)) (sym o) (either-taken bl.external
    (λ e i. inr (λ m. (let q = m.0 in cc), same-taken i)) (λ e i. either-taken (nat_eq (record_at s.tables r).count 1)
    (λ f i. let q = edit-taken {z = record (read_held s.tables x) { kind = Mut }} h y (rw (owner-counted s.tables y r refl, o) refl) i in
    inl ((e, sym n ∙ eqb-true (record_at s.tables r).count 1 f), q.0, q.1))
    (λ f i. inr (λ m. (let q = eq-eqb (record_at s.tables r).count 1 (n ∙ m.1) in cc), same-taken i)) i) i)

-- ---- IsUnique

is-unique-counted : (s : State) (h r : ℕ) (x : Handle) (kind : Kind) → IsSound s → handle_at s h ≡ Some x → x.word ≡ Counted r
    → x.kind ≡ kind
    → is_unique s.tables (record x { kind = kind }) (Counted r) ≡ nat_eq (holders (reading s) (record_at s.tables r).block) 1
is-unique-counted s h r x View k at w e =
    let c = counted-at s h x r k at w in
    ap (λ n. nat_eq n 1) ((k.counted r c.live).counts c.shown)
is-unique-counted s h r x Mut k at w e =
    let one = alone-at s h x (record_at s.tables r).block k at
    (alone-written s.tables (record_at s.tables r).block x r w e ∙ ap (is_block (record_at s.tables r).block) (owner-counted s.tables x r w)
    ∙ eq-eqb (record_at s.tables r).block (record_at s.tables r).block refl) in
    sym (eq-eqb (holders (reading s) (record_at s.tables r).block) 1 one)

-- a handle that has a block is unique exactly where that has one holder
pub unique-word : (s : State) (h : ℕ) (x : Handle) (w : Word) → IsSound s → handle_at s h ≡ Some x → x.word ≡ w → not (is_empty w) ≡ true
    → (b : ℕ)
    × (owner_of s.tables x ≡ Some b) × (is_unique s.tables x w ≡ nat_eq (holders (reading s) b) 1)
unique-word s h x Empty k at w some = absurd (cc)
unique-word s h x (Descriptor v) k at w some =
    let d = described-at s h x v k at w in
    let one = alone-at s h x d.block k at (alone-described s.tables d.block x v w ∙ ap (is_block d.block) d.says.owner
    ∙ eq-eqb d.block d.block refl) in
    (d.block, d.says.owner, sym (eq-eqb (holders (reading s) d.block) 1 one))
unique-word s h x (Counted r) k at w some =
    ((record_at s.tables r).block, owner-counted s.tables x r w, is-unique-counted s h r x x.kind k at w refl)

-- the question for uniqueness leaves the state
pub unique-state : (s : State) (h : ℕ) → s ≡ (short.unique_of s h).state
unique-state s h = elim (lending.lend_owning_of s h) as
    (λ r. s ≡ (on_lent s r (λ x. record { reply = Unique (is_unique s.tables x x.word); state = s })).state)
    [ Err why ↦ refl | Ok x ↦ refl ]
