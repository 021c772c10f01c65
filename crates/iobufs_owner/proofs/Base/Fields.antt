-- The fields of a machine, before a change and after it.
use Rattle.iobufs_owner.proofs.Base.Known.{◌≡◌, refl, length, Option, Handle, subst, sym, ap, vec_capacity, state_of, seen_of, IsReady, IsSound, State, Seen}
use Rattle.std.proofs.Common.{Vec, Global}
use Rattle.iobufs_owner.specs.declared.owner.Machine.TheInside.{Inside}

-- a property of the machine's state holds of the state that its fields keep
pub before : (P : State → Type 0) (m : Inside) (n : Seen) → seen_of m ≡ n → P n.state → P (state_of m)
before P m n e p = subst P (sym (ap (λ (n : Seen). n.state) e)) p

-- where blocks, records, the memory of the logs and of handles, and the counts of borrowers stay as many, the machine is
-- ready if it is sound
pub still : {m n : Inside} → IsReady m → length n.blocks.items ≡ length m.blocks.items → length n.records.items ≡ length m.records.items
    → vec_capacity n.freed_blocks ≡ vec_capacity m.freed_blocks → vec_capacity n.freed_records ≡ vec_capacity m.freed_records
    → vec_capacity n.handles ≡ vec_capacity m.handles → n.calls.handles ≡ m.calls.handles → IsSound (state_of n) → IsReady n
still k b r f g h c sound =
    record { sound = sound; block_room = rw (b, f) k.block_room; record_room = rw (r, g) k.record_room; lent_room = rw (h, c) k.lent_room }

-- where handles alone change, the machine is ready if it is sound
pub edit : {m : Inside} {hs : Vec (Option Handle) Global} → IsReady m → vec_capacity hs ≡ vec_capacity m.handles
    → IsSound (state_of (record m { handles = hs })) → IsReady (record m { handles = hs })
edit k h sound = still k refl refl refl refl h refl sound

-- the state that users see is sound
pub now : {m : Inside} {n : Seen} → IsReady m → seen_of m ≡ n → IsSound n.state
now k e = subst IsSound (ap (λ (n : Seen). n.state) e) k.sound
