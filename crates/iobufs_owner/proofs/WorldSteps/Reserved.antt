-- Steps of a machine with room find it.
use Rattle.iobufs_owner.proofs.Base.{◌≡◌, ◌≢◌, ℕ, ◌+◌, ◌≤◌, arith, List, [], ◌∷◌, ◌++◌, length, subst, Bool, cond, All, inl, inr, sym, ◌∙◌, ap, append_assoc, AllByRecursion as ByRecursion, All-from_recursion, Step, Room, Reply, Refused, Seen, State, KeepsRoom, KeepsLogs, IsBeginning, Moves, WantsRoom, Runs, GrowingRuns, RoomFor, limit, blocks_of, new_blocks, moved, not-full, ◌<◌}
use Rattle.iobufs_owner.specs.State.{Room as Space}
use Rattle.iobufs_owner.proofs.WorldSteps.Modest.{adds_block, blocks-made, modest, logs-same}

-- memory for so many blocks more and for so many steps, within the limit
record HasBoth (m : Seen) (made steps : ℕ) : Type 0 where
  memory : RoomFor m.room m.state made steps steps
  few : RoomFor limit m.state made steps steps

-- no table is full where there is room
wants-none : (m : Seen) (t : State) (block : Bool) → length t.handles ≤ length m.state.handles + 1
    → length t.tables.records ≤ length m.state.tables.records + 1
    → length t.tables.blocks ≤ length m.state.tables.blocks + cond block 1 0 → HasBoth m (cond block 1 0) 1 → WantsRoom m t → ⊥
wants-none m t block h v b r (inl (grows, full)) = not-full r.memory.handles r.few.handles (omega arith) full
wants-none m t block h v b r (inr (inl (grows, full))) =
    let some : 0 < cond block 1 0 = omega (arith, b, grows) in
    not-full (r.memory.blocks some) (r.few.blocks some) (omega (arith, some)) full
wants-none m t block h v b r (inr (inr (grows, full))) = not-full r.memory.records r.few.records (omega arith) full

-- a step of a machine with room for its block and for one step isn't refused for want of room
pub finds : (m : Seen) (step : Step) (reply : Reply) (next : Seen) → Moves m step reply next
    → RoomFor m.room m.state (new_blocks step.act) 1 1
    → RoomFor limit m.state (new_blocks step.act) 1 1 → reply ≢ Refused Room
finds m step reply next taken memory few =
    let n = modest m.state step in
    elim taken [
      | inl a ↦ λ q. n.answers (sym a.1 ∙ q)
      | inr a ↦ λ _. wants-none m (moved m.state step).state (adds_block step.act) n.handles n.records n.blocks (record {
        memory = rw (blocks-made step.act) at memory;
        few = rw (blocks-made step.act) at few;
      }) a.0
    ]

-- ---- the logs

-- a step leaves in the logs what they have, and adds after it
pub keeps-logs : (m : Seen) (step : Step) (reply : Reply) (next : Seen) → Moves m step reply next → KeepsLogs m.state next.state
keeps-logs m step reply next taken = elim taken [ inl a ↦ rw a.2 (modest m.state step).logs | inr a ↦ rw a.2 (logs-same m.state) ]

-- ---- a run

-- s with room for a blocks and k steps leaves t with room for b blocks and n steps
record Leaves (s t : State) (a b k n : ℕ) : Type 0 where
  blocks : 0 < b → (0 < a) × (length t.tables.blocks + b ≤ length s.tables.blocks + a)
  handles : length t.handles + n ≤ length s.handles + k
  records : length t.tables.records + n ≤ length s.tables.records + k

-- room for as many entries, where the memory is no less, and no more entries are added than room is taken off
room-on : {r room : Space} {s t : State} {a b k n : ℕ} → KeepsRoom r room → Leaves s t a b k n → RoomFor r s a k k → RoomFor room t b n n
room-on (m, h, v) l i = record {
  blocks = λ p. let e = l.blocks p in omega (arith, i.blocks e.0, m, e.1);
  handles = omega (arith, i.handles, h, l.handles);
  records = omega (arith, i.records, v, l.records);
}

both-on : {m t : Seen} {a b k n : ℕ} → KeepsRoom m.room t.room → Leaves m.state t.state a b k n → HasBoth m a k → HasBoth t b n
both-on keep l i = record { memory = room-on keep l i.memory; few = room-on (omega arith, omega arith, omega arith) l i.few }

-- so a step leaves room for one step less
moves-left : (m : Seen) (step : Step) (reply : Reply) (next : Seen) (b n : ℕ) → Moves m step reply next → next.room ≡ m.room
    → HasBoth m (new_blocks step.act + b) (n + 1) → HasBoth next b n
moves-left m step reply next b n taken room i =
    let a = modest m.state step in
    let left : Leaves m.state next.state (new_blocks step.act + b) b (n + 1) n = elim taken [
      | inl c ↦ rw c.2 (record {
        blocks = λ p. (omega (arith, p), omega (arith, blocks-made step.act, a.blocks));
        handles = omega (arith, a.handles);
        records = omega (arith, a.records);
      })
      | inr c ↦ rw c.2 (record { blocks = λ p. (omega (arith, p), omega arith); handles = omega arith; records = omega arith })
    ] in
    both-on (rw room (omega arith, omega arith, omega arith)) left i

find-each : (m : Seen) (steps : List Step) (replies : List Reply) (next : Seen) → GrowingRuns m steps replies next
    → HasBoth m (blocks_of steps) (length steps) → ByRecursion (λ reply. reply ≢ Refused Room) replies
find-each m [] (reply ∷ replies) next r i = absurd r
find-each m (step ∷ steps) (reply ∷ replies) next (grown, mid, same, more, one, others) i =
    let a = new_blocks step.act in
    let b = blocks_of steps in
    let g : HasBoth grown (a + b) (length steps + 1) =
    both-on more (rw same (record { blocks = λ p. (p, omega arith); handles = omega arith; records = omega arith })) i in
    let l : Leaves grown.state grown.state (a + b) a (length steps + 1) 1 =
    record { blocks = λ p. (omega (arith, p), omega arith); handles = omega arith; records = omega arith } in
    let f : HasBoth grown a 1 = both-on (omega arith, omega arith, omega arith) l g in (
      finds grown step reply mid one.moves f.memory f.few,
      find-each mid steps replies next others (moves-left grown step reply mid b _ one.moves one.room g),
    )
find-each m steps replies next r i = tt

-- no step of a run in which tables may grow is refused for want of room, where the machine has room for its blocks and steps
pub find : (m : Seen) (steps : List Step) (replies : List Reply) (next : Seen) → GrowingRuns m steps replies next
    → RoomFor m.room m.state (blocks_of steps) (length steps) (length steps)
    → RoomFor limit m.state (blocks_of steps) (length steps) (length steps)
    → All (λ reply. reply ≢ Refused Room) replies
find m steps replies next r memory few =
    All-from_recursion (λ reply. reply ≢ Refused Room) replies (find-each m steps replies next r (record { memory = memory; few = few }))

begins-through : {X : Type 0} (a b c : List X) → IsBeginning a b → IsBeginning b c → IsBeginning a c
begins-through a b c (m, e) (n, f) = (m ++ n, f ∙ ap (λ l. l ++ n) e ∙ append_assoc a m n)

-- a run leaves in the logs what they have, and adds after it
pub logs-run : (s : State) (steps : List Step) (replies : List Reply) (next : State) → Runs s steps replies next → KeepsLogs s next
logs-run s [] [] next r = subst (λ (n : State). KeepsLogs s n) (sym r) (logs-same s)
logs-run s (step ∷ steps) (reply ∷ replies) next (mid, one, others) =
    let a = one.logs in
    let b = logs-run mid steps replies next others in
    (begins-through _ _ _ a.0 b.0, begins-through _ _ _ a.1 b.1)
logs-run s steps replies next r = absurd r
