-- Splitting a view keeps the machine sound.
use Rattle.iobufs_owner.proofs.Base.{false, frozen, ◌≡◌, ℕ, ◌+◌, ◌^◌, ◌<◌, ◌≤◌, [], ◌∷◌, ◌++◌, length, set, refl, arith, Option, Some, None, length-append, length-set, All-push, All-set, set-set, get_or-set_same, State, Tables, owner_of, record_at, block_at, handle_at, tally, IsSound, Fits, alone, describes, counted, with_count, with_handle, with_record, edited, detached_handle, part, next_record, Lends, Handle, View, Empty, Descriptor, Counted, count-append, count-set, at-some, append-at, sound-detached, owner-empty, fits-at, counted-at, empty-at, lies-as, sound-handles, held_by, sound-emptied, sound-recounted, set-append_left, set-append_seam, lent-stays, Bool}
use Rattle.iobufs_owner.proofs.Soundness.NewRecord.{recorded, recorded-new, sound-promoted}
use Rattle.iobufs_owner.proofs.Soundness.AddHolder.{sound-added}

-- ---- a part in the place of the whole

pub sound-part_empty : (s : State) (h : ℕ) (x : Handle) (lo hi : ℕ) → IsSound s → Lends s h View x → x.word ≡ Empty → lo ≤ hi → hi ≤ x.len
    → IsSound (edited s h (part x lo hi Empty))
sound-part_empty s h x lo hi k t i low high =
    let f = empty-at s h x k t.at i in
    sound-emptied s h x (part x lo hi Empty) View k t i refl
    (record { no_room = refl; ends = omega (arith, f.ends); no_bytes = λ m. absurd (cc) })

pub sound-part_counted : (s : State) (h : ℕ) (x : Handle) (r lo hi : ℕ) → IsSound s → Lends s h View x → x.word ≡ Counted r → lo ≤ hi
    → hi ≤ x.len
    → IsSound (edited s h (part x lo hi (Counted r)))
sound-part_counted s h x r lo hi k t i low high =
    let lies = lies-as (block_at s.tables (record_at s.tables r).block) x View t.kind_is (counted-at s h x r k t.at i).lies in
    sound-recounted s h x (part x lo hi (Counted r)) View r k t i refl refl
    (record { begins = omega (arith, lies.begins); ends = omega (arith, lies.ends); no_room = refl })

-- ---- the parts

-- a view without block that no call borrows becomes two at a place within it, where there were fewer than 2^32 handles: the machine stays
-- sound
pub sound-split_empty : (s : State) (h at : ℕ) (x : Handle) → IsSound s → Lends s h View x → x.word ≡ Empty → at ≤ x.len
    → length s.handles < 2 ^ 32
    → IsSound (with_handle (edited s h (part x at x.len Empty)) (part x 0 at Empty))
sound-split_empty s h at x k t i low few =
    let f = empty-at s h x k t.at i in
    sound-detached (edited s h (part x at x.len Empty)) (part x 0 at Empty) (sound-part_empty s h x at x.len k t i low (omega arith)) refl
    (record { no_room = refl; ends = omega (arith, f.ends); no_bytes = λ m. absurd (cc) }) (rw length-set few)

lends-more : (s : State) (g : Tables) (y : Handle) (h : ℕ) (x : Handle) → Lends s h View x
    → Lends (record s { tables = g; handles = s.handles ++ Some y ∷ [] }) h View x
lends-more s g y h x t = record { at = append-at s.handles (Some y) h x t.at; kind_is = t.kind_is; free = t.free }

-- a view by a record that no call borrows becomes two at a place within it, and the record counts one more, where the count
-- was at most the ceiling and there were fewer than 2^32 handles: the machine stays sound
pub sound-split_counted : (s : State) (h r at : ℕ) (x : Handle) → IsSound s → Lends s h View x → x.word ≡ Counted r → at ≤ x.len
    → (record_at s.tables r).count ≤ s.ceiling → length s.handles < 2 ^ 32
    → IsSound (with_handle (edited (with_count s r ((record_at s.tables r).count + 1)) h (part x at x.len (Counted r)))
    (part x 0 at (Counted r)))
sound-split_counted s h r at x k t i low on few =
    let g' : Tables = counted s.tables r ((record_at s.tables r).count + 1) in
    let front : Handle = part x 0 at (Counted r) in
    let one = sound-added s r (record { handle = h; lo = 0; hi = at }) x k
    (record { at = t.at; view = t.kind_is; order = omega arith; within = low }) i on few in
    let two = sound-part_counted (record s { tables = g'; handles = s.handles ++ Some front ∷ [] }) h x r at x.len one
    (lends-more s g' front h x t) i low
    (omega arith) in
    rw (set-append_left s.handles (Some front ∷ []) h (Some (part x at x.len (Counted r))) (at-some s.handles h x t.at)) at two

counted-new : (g : Tables) (b : ℕ) → counted (recorded g 1 b) (length g.records)
    ((record_at (recorded g 1 b) (length g.records)).count + 1) ≡ recorded g 2 b
counted-new g b = rw (recorded-new g 1 b, set-append_seam) refl

-- a view by a descriptor that no call borrows becomes two at a place within it, by a new record that counts two, where there
-- were fewer than 2^32 records and handles: the machine stays sound
pub sound-split_described : (s : State) (h w b at : ℕ) (x : Handle) → IsSound s → Lends s h View x → x.word ≡ Descriptor w
    → owner_of s.tables x ≡ Some b → at ≤ x.len → length s.tables.records < 2 ^ 32 → length s.handles < 2 ^ 32
    → IsSound (with_handle (edited (with_record s 2 b) h (part x at x.len (Counted (next_record s))))
    (part x 0 at (Counted (next_record s))))
sound-split_described s h w b at x k t i o low few' few =
    let r : ℕ = length s.tables.records in
    let y : Handle = frozen x (Counted (length s.tables.records)) in
    let front : Handle = part x 0 at (Counted (length s.tables.records)) in
    let l = at-some s.handles h x t.at in
    let s1 : State = edited (with_record s 1 b) h y in
    let one : IsSound s1 = sound-promoted s h x w b View k t i o few' in
    let at1 : handle_at s1 h ≡ Some y = get_or-set_same s.handles h (Some y) None l in
    let two = sound-added s1 r (record { handle = h; lo = 0; hi = at }) y one
    (record { at = at1; view = refl; order = omega arith; within = low }) refl
    (rw (recorded-new s.tables 1 b) (omega arith)) (rw length-set few) in
    let g2 : Tables = counted (recorded s.tables 1 b) r ((record_at (recorded s.tables 1 b) r).count + 1) in
    let t1 : Lends s1 h View y = record { at = at1; kind_is = refl; free = t.free } in
    let three = sound-part_counted (record s1 { tables = g2; handles = s1.handles ++ Some front ∷ [] }) h y r at x.len two
    (lends-more s1 g2 front h y t1) refl low (omega arith) in
    let back : Option Handle = Some (part x at x.len (Counted (length s.tables.records))) in
    rw (
      set-append_left (set s.handles h (Some y)) (Some front ∷ []) h back (rw length-set l),
      set-set s.handles h (Some y) back,
      counted-new s.tables b,
    ) at three

-- ---- the whole view moves to a new number

-- a view that no call borrows moves to a new number, and an empty detached one stands in its place, where there were fewer
-- than 2^32 handles: the machine stays sound
pub sound-moved : (s : State) (h : ℕ) (x : Handle) → IsSound s → Lends s h View x → length s.handles < 2 ^ 32
    → IsSound (with_handle (edited s h (detached_handle 0)) x)
sound-moved s h x k t few =
    let g : Tables = s.tables in
    let y : Option Handle = Some (detached_handle 0) in
    let l = at-some s.handles h x t.at in
    let oy = owner-empty g (detached_handle 0) refl in
    let count : (p : Option Handle → Bool) → p (Some (detached_handle 0)) ≡ false
    → tally p (set s.handles h y ++ Some x ∷ []) ≡ tally p s.handles = λ p n.
    let a = count-append p (set s.handles h y) (Some x) in let m = rw (t.at, n) at (count-set p s.handles h y None l) in omega
    (arith, a, m) in
    sound-handles s (set s.handles h y ++ Some x ∷ []) k (rw (length-append, length-set) (omega arith))
    (All-push (Fits g s.calls) (set s.handles h y) (Some x)
    (All-set (Fits g s.calls) s.handles h y (record { no_room = refl; ends = omega arith; no_bytes = λ m. refl }) k.fit)
    (fits-at s h x k t.at))
    (λ c. count (held_by g c) (rw oy refl)) (λ c. omega (arith, count (describes g c) (rw oy refl)))
    (λ c p. k.sole c (rw (count (alone g c) (rw oy refl)) at p))
    (λ i z b a. append-at (set s.handles h y) (Some x) i z (lent-stays s h y t.free i z b a))
