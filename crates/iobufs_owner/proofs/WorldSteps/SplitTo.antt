-- SplitTo, read as a step of the world.
use Rattle.iobufs_owner.proofs.Base.{holders, ◌≡◌, ◌⊎◌, inl, inr, ℕ, ◌+◌, Bool, true, false, cond, nat_lt, length, Option, Some, ap, sym, ◌∙◌, subst, refl, arith, Handle, View, Word, Empty, Descriptor, Counted, OutOfRange, Ceiling, Reply, State, owner_of, owned_by, record_at, World, is_block, reading, read_held, IsSound, refused, made, edited, part, counted, with_count, Lends, promoted, NoRoom, Denied, Makes, Refuses, held_set, part_of, IsAnswered, owner-empty, owner-counted, eq-eqb, described-at, counted-at, alone-at, alone-described, MatchBool, MatchOption, None, cause_if, is_over, le-ltb}
use Rattle.iobufs_owner.specs.Changes as change
use Rattle.iobufs_owner.specs.ShortCalls as short
use Rattle.iobufs_owner.specs.Steps as world
use Rattle.iobufs_owner.proofs.Soundness.{counted-let_go, counted-more, counted-block}
use Rattle.iobufs_owner.proofs.WorldSteps.Freeze.{promoted-owner}
use Rattle.iobufs_owner.proofs.WorldSteps.Taken.{same-taken, made-taken, replaced-in, recorded-in, counted-in, reads-detached, reads-part}

-- the effect of a split inside the view in the abstract state, by the block that the view holds
abbrev Splits : State → (h at : ℕ) → Handle → Bool → Option ℕ → Reply → World → Type 0
Splits s h at x memory o reply next =
    Denied (reading s) o memory reply next ⊎ NoRoom (reading s) reply next
    ⊎ Makes (held_set (reading s) h (part_of (read_held s.tables x) at x.len)) (part_of (read_held s.tables x) 0 at) reply next

-- the effect of such a split, unless its block has too many holders
abbrev SplitsOr : State → (h at : ℕ) → Handle → Bool → Option ℕ → Reply → World → Type 0
SplitsOr s h at x memory o reply next =
    MatchOption (cause_if (is_over (reading s) o) Ceiling) (Splits s h at x memory o reply next) (λ why. Refuses (reading s) why reply next)

room-or-made : (P Q R : Type 0) → Q ⊎ R → P ⊎ Q ⊎ R
room-or-made P Q R (inl q) = inr (inl q)
room-or-made P Q R (inr r) = inr (inr r)

-- a view that becomes two by one word, after a change that users don't see
split-made : {s t : State} {reply : Reply} (u : State) (h at : ℕ) (x : Handle) (w : Word) → reading u ≡ reading s
    → owner_of u.tables (part x at x.len w) ≡ owner_of s.tables x → owner_of u.tables (part x 0 at w) ≡ owner_of s.tables x
    → IsAnswered s (short.split_with u h at x w) reply t → NoRoom (reading s) reply (reading t)
    ⊎ Makes (held_set (reading s) h (part_of (read_held s.tables x) at x.len)) (part_of (read_held s.tables x) 0 at) reply (reading t)
split-made {s} u h at x w r ob of i = made-taken (edited u h (part x at x.len w)) (part x 0 at w)
    (replaced-in u h (Some (part x at x.len w)) r (ap Some (reads-part s.tables u.tables x at x.len w ob)))
    (reads-part s.tables u.tables x 0 at w of) i

split-described : {s t : State} {reply : Reply} (h at v : ℕ) (x : Handle) (memory : Bool) → IsSound s → Lends s h View x
    → x.word ≡ Descriptor v
    → IsAnswered s (short.split_by s h at memory x (Descriptor v)) reply t → Splits s h at x memory (owner_of s.tables x) reply (reading t)
split-described {s} h at v x true k l w i =
    let o = (described-at s h x v k l.at w).says.owner in
    let w' : Word = Counted (length s.tables.records) in
    inr (split-made (promoted s x 2) h at x w' (recorded-in s 2 (owned_by s.tables x) k)
    (promoted-owner s.tables 2 _ x (part x at x.len w') o refl)
    (promoted-owner s.tables 2 _ x (part x 0 at w') o refl) i)
split-described {s} h at v x false k l w i =
    inl (record { some = rw (described-at s h x v k l.at w).says.owner refl; denied = refl; refuses = same-taken i })

split-counted : {s t : State} {reply : Reply} (h at r : ℕ) (x : Handle) (memory : Bool) (u : Bool) → IsSound s → Lends s h View x
    → x.word ≡ Counted r → nat_lt s.ceiling (record_at s.tables r).count ≡ u
    → IsAnswered s (cond u (refused s Ceiling) (short.split_with (with_count s r ((record_at s.tables r).count + 1)) h at x
    (Counted r))) reply t
    → SplitsOr s h at x memory (Some (record_at s.tables r).block) reply (reading t)
split-counted {s} h at r x memory true k l w e i =
    let c = counted-at s h x r k l.at w in
    let n = (k.counted r c.live).counts c.shown in
    rw (← n, e) (same-taken i)
split-counted {s} h at r x memory false k l w e i =
    let c = counted-at s h x r k l.at w in
    let n = (k.counted r c.live).counts c.shown in
    let m : ℕ = (record_at s.tables r).count + 1 in
    let o : (y : Handle) → y.word ≡ Counted r → owner_of (counted s.tables r m) y ≡ owner_of s.tables x =
    λ y yw. owner-counted (counted s.tables r m) y r yw ∙ ap Some (counted-block s.tables r m r) ∙ sym (owner-counted s.tables x r w) in
    rw (← n, e) (room-or-made _ _ _ (split-made (with_count s r m) h at x (Counted r)
    (counted-in s r m k (λ i d l' v j t. counted-let_go s.tables r m v (counted-more s h x r k l.at w)))
    (o (part x at x.len (Counted r)) refl) (o (part x 0 at (Counted r)) refl) i))

split-word : {s t : State} {reply : Reply} (h at : ℕ) (x : Handle) (memory : Bool) (w : Word) → IsSound s → Lends s h View x → x.word ≡ w
    → IsAnswered s (short.split_by s h at memory x w) reply t → SplitsOr s h at x memory (owner_of s.tables x) reply (reading t)
split-word {s} {t} {reply} h at x memory Empty k l w i =
    let n = owner-empty s.tables x w in
    let m = split-made s h at x Empty refl (owner-empty s.tables (part x at x.len Empty) refl ∙ sym n)
    (owner-empty s.tables (part x 0 at Empty) refl ∙ sym n) i in
    subst (λ (o : Option ℕ). SplitsOr s h at x memory o reply (reading t)) (sym n) (room-or-made _ _ _ m)
split-word {s} {t} {reply} h at x memory (Descriptor v) k l w i =
    let d = described-at s h x v k l.at w in
    let one = alone-at s h x d.block k l.at (alone-described s.tables d.block x v w ∙ ap (is_block d.block) d.says.owner
    ∙ eq-eqb d.block d.block refl) in
    let c = k.size.ceiling in
    subst (λ (o : Option ℕ). SplitsOr s h at x memory o reply (reading t)) (sym d.says.owner)
    (rw (le-ltb s.ceiling (holders (reading s) d.block) (omega (arith, one, c)))
    (subst (λ (o : Option ℕ). Splits s h at x memory o reply (reading t)) d.says.owner (split-described h at v x memory k l w i)))
split-word {s} {t} {reply} h at x memory (Counted r) k l w i =
    subst (λ (o : Option ℕ). SplitsOr s h at x memory o reply (reading t)) (sym (owner-counted s.tables x r w))
    (split-counted h at r x memory (nat_lt s.ceiling (record_at s.tables r).count) k l w refl i)

-- a split has the effect that users see
pub split-by : {s t : State} {reply : Reply} (h at : ℕ) (x : Handle) (memory u v z : Bool) → IsSound s → Lends s h View x
    → IsAnswered s (cond u (refused s OutOfRange) (cond v (made s (change.detached_handle 0))
    (cond z (made (edited s h (change.detached_handle 0)) x) (short.split_by s h at memory x x.word)))) reply t
    → MatchOption (cond u (Some OutOfRange) (cond v None (cond z None (cause_if (is_over (reading s) (owner_of s.tables x)) Ceiling))))
    (MatchBool v (NoRoom (reading s) reply (reading t) ⊎ Makes (reading s) (world.detached 0) reply (reading t))
    (MatchBool z (NoRoom (reading s) reply (reading t)
    ⊎ Makes (held_set (reading s) h (world.detached 0)) (read_held s.tables x) reply (reading t))
    (Splits s h at x memory (owner_of s.tables x) reply (reading t)))) (λ why. Refuses (reading s) why reply (reading t))
split-by h at x memory true v z k l i = same-taken i
split-by {s} h at x memory false true z k l i = made-taken s (change.detached_handle 0) refl (reads-detached s.tables 0) i
split-by {s} h at x memory false false true k l i = made-taken (edited s h (change.detached_handle 0)) x
    (replaced-in s h (Some (change.detached_handle 0)) refl (ap Some (reads-detached s.tables 0))) refl i
split-by h at x memory false false false k l i = split-word h at x memory x.word k l refl i
