-- Steps that add no entry want no room, and steps that are taken have found it.
use Rattle.iobufs_owner.proofs.Base.Known.{◌≡◌, ◌⊎◌, inl, inr, ℕ, ◌<◌, ◌≤◌, length, ap, refl, arith, Result, Ok, Err, result_unwrap_or, Room, Full, Step, Reply, Refused, State, Seen, Outcome, IsSound, WantsRoom, Moves, Took, IsCarriedOut, moved, ◌^◌}
use Rattle.iobufs_owner.specs.State.{IsFull}

-- every table has memory for its entries
pub record HasMemory (m : Seen) : Type 0 where
  pub blocks : length m.state.tables.blocks ≤ m.room.blocks
  pub handles : length m.state.handles ≤ m.room.handles
  pub records : length m.state.tables.records ≤ m.room.records

-- how many handles, blocks and records there are
pub record Entries : Type 0 where
  pub handles : ℕ
  pub blocks : ℕ
  pub records : ℕ

abbrev pub entries : State → Entries
entries s = record { handles = length s.handles; blocks = length s.tables.blocks; records = length s.tables.records }

-- one of the tables has more entries in t
abbrev pub Grows : State → State → Type 0
Grows s t = (length s.handles < length t.handles) ⊎ (length s.tables.blocks < length t.tables.blocks)
    ⊎ (length s.tables.records < length t.tables.records)

-- where all tables have as many entries, none has more
pub grows-never : (s t : State) → entries t ≡ entries s → Grows s t → ⊥
grows-never s t e (inl l) = let a = ap (λ (n : Entries). n.handles) e in omega (arith, a, l)
grows-never s t e (inr (inl l)) = let a = ap (λ (n : Entries). n.blocks) e in omega (arith, a, l)
grows-never s t e (inr (inr l)) = let a = ap (λ (n : Entries). n.records) e in omega (arith, a, l)

-- the step would add an entry, and changes nothing
pub record FindsNoRoom (s : State) (o : Outcome) (reply : Reply) (next : State) : Type 0 where
  pub grows : Grows s o.state
  pub refused : reply ≡ Refused Room
  pub same : next ≡ s

-- the step is taken, or it finds no room
abbrev pub IsAnswered : State → Outcome → Reply → State → Type 0
IsAnswered s o reply next = ((reply ≡ o.reply) × (next ≡ o.state)) ⊎ FindsNoRoom s o reply next

wants-grows : (m : Seen) (t : State) → WantsRoom m t → Grows m.state t
wants-grows m t (inl w) = inl w.0
wants-grows m t (inr (inl w)) = inr (inl w.0)
wants-grows m t (inr (inr w)) = inr (inr w.0)

-- a step has the outcome that the step tables give, or it would add an entry, replies `Room` and changes nothing
pub answered : (m : Seen) (o : Outcome) (reply : Reply) (t : State) → IsCarriedOut m o reply t → IsAnswered m.state o reply t
answered m o reply t (inl (found, e, f)) = inl (e, f)
answered m o reply t (inr (w, e, f)) = inr (record { grows = wants-grows m o.state w; refused = e; same = f })

-- ---- a step finds room, or wants it

-- a table that has memory for more entries than before wasn't full
pub not-full : {n t room : ℕ} → t ≤ room → t ≤ 2 ^ 32 → n < t → IsFull room n → ⊥
not-full h g l (inl used) = omega (arith, h, l, used)
not-full h g l (inr many) = omega (arith, g, l, many)

-- after a step that was taken every table has memory for its entries: so those that it added had room
found : (m next : Seen) (t : State) → next.state ≡ t → next.room ≡ m.room → IsSound next.state → HasMemory next → WantsRoom m t → ⊥
found m next t e f sound held (inl (grows, full)) = not-full (rw (e, f) at held.handles) (rw e at sound.size.few_handles) grows full
found m next t e f sound held (inr (inl (grows, full))) = not-full (rw (e, f) at held.blocks) (rw e at sound.size.few_blocks) grows full
found m next t e f sound held (inr (inr (grows, full))) = not-full (rw (e, f) at held.records) (rw e at sound.size.few_records) grows full

-- a step leaves the room of each table, whichever its result
pub room-of : (m : Seen) (o : Outcome) (result : Result Reply Full) (next : Seen) → Took m o result next → next.room ≡ m.room
room-of m o (Ok reply) next (e, f, k) = k
room-of m o (Err full) next (w, e) = ap (λ (n : Seen). n.room) e

-- The code's result is a move of the machine, with the refusal `Room` for an error. The state after the step has to be
-- sound, and its tables need memory for their entries.
pub moves-of : (m : Seen) (step : Step) (result : Result Reply Full) (next : Seen) → IsSound next.state
    → length next.state.tables.blocks ≤ next.room.blocks → length next.state.handles ≤ next.room.handles
    → length next.state.tables.records ≤ next.room.records → Took m (moved m.state step) result next
    → Moves m step (result_unwrap_or result (Refused Room)) next
moves-of m step (Ok reply) next sound b h r (e, f, k) =
    inl (found m next (moved m.state step).state f k sound (record { blocks = b; handles = h; records = r }), e, f)
moves-of m step (Err full) next sound b h r (w, e) = inr (w, refl, ap (λ (n : Seen). n.state) e)
