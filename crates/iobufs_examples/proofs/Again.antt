-- An entry in the log of freed blocks: nobody holds its block, and it stands there once.
use Rattle.std.proofs.Common.{◌≡◌, ◌≢◌, ℕ, ◌<◌, ◌==◌, true, List, length, take, get_or, sym, ◌∙◌, refl, arith, All, subst, inl, inr}
use Rattle.std.proofs.lemmas.Bool.Decides.{eqb_tells}
use Rattle.std.proofs.lemmas.List.{get_or-take, length-take-le}
use Rattle.std.proofs.lemmas.List.Folds.{list_any_at}
use Rattle.iobufs_owner.specs.declared.owner.types.Block.{Block}
use Rattle.iobufs_owner.specs.declared.owner.types.Freed.{Freed}
use Rattle.iobufs_owner.specs.Promises.{Promises}
use Rattle.iobufs_owner.specs.Reading.{reading, same_freed}
use Rattle.iobufs_owner.specs.State.{State, block_at, triple}
use Rattle.iobufs_owner.specs.World.{holders}

same : (n : ℕ) → (n == n) ≡ true
same n = elim (eqb_tells n n) [ inl e ↦ e.0 | inr e ↦ absurd (e.1 refl) ]

same-triple : (b : Block) → same_freed b (triple b) ≡ true
same-triple b = rw (same b.base, same b.size, same b.align) refl

-- an entry of the log
abbrev pub IsAt : List Freed → ℕ → Freed → Type 0
IsAt log i freed = (i < length log) × ((d : Freed) → freed ≡ get_or log i d)

-- whose memory it is, nobody holds
unheld-at : (s : State) (i : ℕ) (freed : Freed) → Promises s → IsAt s.freed_blocks i freed → (b : ℕ) → b < length s.tables.blocks
    → triple (block_at s.tables b) ≡ freed → holders (reading s) b ≡ 0
unheld-at s i freed p at b l e =
    let test : same_freed (block_at s.tables b) (get_or s.freed_blocks i freed) ≡ true =
    subst (λ (f : Freed). same_freed (block_at s.tables b) f ≡ true) (e ∙ at.1 freed) (same-triple (block_at s.tables b)) in
    p.never_held b (record { known = l; logged = list_any_at (same_freed (block_at s.tables b)) s.freed_blocks i freed at.0 test })

-- a block that stands in the log of freed ones has no holder, where the promises hold
pub unheld : (s : State) (log : List Freed) (i : ℕ) (freed : Freed) → Promises s → log ≡ s.freed_blocks → IsAt log i freed → (b : ℕ)
    → b < length s.tables.blocks → triple (block_at s.tables b) ≡ freed → holders (reading s) b ≡ 0
unheld s log i freed p e at = unheld-at s i freed p (subst (λ (l : List Freed). IsAt l i freed) e at)

-- it stands there once
once-at : (s : State) (i : ℕ) (freed : Freed) → Promises s → IsAt s.freed_blocks i freed
    → All (λ other. other ≢ freed) (take i s.freed_blocks)
once-at s i freed p at = λ k d l e.
    let inside = at.0 in
    let count = length-take-le i s.freed_blocks (omega (arith, inside)) in
    let before : k < i = omega (arith, l, count) in
    p.blocks_once k i d before inside (sym (get_or-take i s.freed_blocks k d before) ∙ e ∙ at.1 d)

-- an entry of the log of freed blocks differs from each one before it, where the promises hold
pub once : (s : State) (log : List Freed) (i : ℕ) (freed : Freed) → Promises s → log ≡ s.freed_blocks → IsAt log i freed
    → All (λ other. other ≢ freed) (take i s.freed_blocks)
once s log i freed p e at = once-at s i freed p (subst (λ (l : List Freed). IsAt l i freed) e at)
