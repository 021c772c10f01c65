-- Freeing a record leaves the other records, the block of each record, and whether a drop has let go.
use Rattle.iobufs_owner.proofs.Base.{◌≡◌, ◌≢◌, inl, inr, ℕ, ◌<◌, true, false, length, sym, ◌∙◌, ap, refl, nat_eq, get_or-set_same, get_or-set_other, eqb_tells, Tables, record_at, tables_without, Record, Keeps, keeps-records, no_record, All, KeepsLetGo, List, Option, Pending}
use Rattle.iobufs_owner.proofs.Soundness.AddHolder.{field-set}

-- a record that is freed leaves the block of each
pub dead-block : (g : Tables) (r q : ℕ) → (record_at (tables_without g r) q).block ≡ (record_at g q).block
dead-block g r q = field-set (λ (v : Record). v.block) g.records r q _ _ refl

-- a record that is freed leaves the others as they were
pub dead-at : (g : Tables) (r q : ℕ) → q ≢ r → record_at (tables_without g r) q ≡ record_at g q
dead-at g r q ne = get_or-set_other g.records r q _ no_record ne

-- a record that is freed leaves the others live or dead as they were
pub dead-other : (g : Tables) (r q : ℕ) → q ≢ r → (record_at (tables_without g r) q).live ≡ (record_at g q).live
dead-other g r q ne = ap (λ (v : Record). v.live) (dead-at g r q ne)

-- tables in which a record is freed keep what live handles and calls speak of
pub dead-keeps : (g : Tables) (r : ℕ) → Keeps g (tables_without g r)
dead-keeps g r = keeps-records g (tables_without g r).records (λ q e. dead-block g r q)

-- where a record is freed, each drop has let go as before
pub dead-let_go : (g : Tables) (r : ℕ) (cs : List (Option Pending)) → All (KeepsLetGo g (tables_without g r)) cs
dead-let_go g r cs i d l q j t = ap (λ (n : ℕ). nat_eq n 0) (field-set (λ (v : Record). v.count) g.records r q _ _ refl)

-- a record that is live after one is freed was live before, and is another record
pub dead-live : (g : Tables) (r q : ℕ) → r < length g.records → (record_at (tables_without g r) q).live ≡ true
    → ((record_at g q).live ≡ true) × (q ≢ r)
dead-live g r q l e = elim (eqb_tells q r) [
  | inl i ↦ absurd (let z = rw i.1 at e in let y = ap (λ (v : Record). v.live)
      (get_or-set_same g.records r
      (record { count = (record_at g r).count; block = (record_at g r).block; live = false }) no_record l) in cc)
  | inr i ↦ (sym (dead-other g r q i.1) ∙ e, i.1)
]
