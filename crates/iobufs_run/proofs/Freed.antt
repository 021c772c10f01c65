-- Names that may be free after a refusal for a failed allocation, and those that are.
use Rattle.std.proofs.Common.{◌≡◌, ◌≢◌, ℕ, zero, suc, ◌⊎◌, inl, inr, true, false, List, [], ◌∷◌, ◌++◌, take, arith, refl, ◌∙◌, get_or-set_other}
use Rattle.std.specs.Prelude.{slice_set, ◌==◌, IsTrue, Bool}
use Rattle.std.proofs.Math.Bool.{or-true}
use Rattle.std.proofs.lemmas.Bool.{or_parts}
use Rattle.std.proofs.lemmas.Bool.Decides.{nat_tests}
use Rattle.std.proofs.lemmas.List.{length-set}
use Rattle.iobufs_run.specs.declared.table.Slot.{Slot}
use Rattle.iobufs_run.specs.declared.table.Slot.TheVariants.{Free}
use Rattle.iobufs_run.specs.Slots.{slot_named}
use Rattle.iobufs_run.specs.Causes.{is_listed}
use Rattle.iobufs_run.specs.Run.{all_freed, MayFree}

-- to free names and one more is to free the names and then that one
pub all_freed-append : (old : List Slot) (xs : List ℕ) (x : ℕ) → all_freed old (xs ++ x ∷ []) ≡ slice_set (all_freed old xs) x Free
all_freed-append old [] x = refl
all_freed-append old (y ∷ ys) x = all_freed-append (slice_set old y Free) ys x

-- a name that is freed holds nothing, and the others hold what they held
pub held_freed : (names : List Slot) (n : ℕ) → slot_named (slice_set names n Free) n ≡ Free
held_freed [] n = refl
held_freed (s ∷ ss) zero = refl
held_freed (s ∷ ss) (suc n) = held_freed ss n

-- a name holds what it held where another one gets something else
pub held_other : (names : List Slot) (n x : ℕ) (slot : Slot) → x ≢ n → slot_named (slice_set names n slot) x ≡ slot_named names x
held_other names n x slot other = get_or-set_other names n x slot Free other

pub differ : (n x : ℕ) → (n == x) ≡ false → x ≢ n
differ n x e = grind (arith, nat_tests)

-- names that fail the test of equality differ
pub differ_back : (x n : ℕ) → (x == n) ≡ false → x ≢ n
differ_back x n e = grind (arith, nat_tests)

held_at : (names : List Slot) (n x : ℕ) (same : Bool) → (n == x) ≡ same → (slot_named (slice_set names n Free) x ≡ slot_named names x)
    ⊎ (IsTrue (n == x) × (slot_named (slice_set names n Free) x ≡ Free))
held_at names n x false e = inl (held_other names n x Free (differ n x e))
held_at names n x true e =
    let same : n ≡ x = grind (arith, nat_tests) in
    inr (e, rw (← same) (held_freed names n))

held_one : (names : List Slot) (n x : ℕ) → (slot_named (slice_set names n Free) x ≡ slot_named names x)
    ⊎ (IsTrue (n == x) × (slot_named (slice_set names n Free) x ≡ Free))
held_one names n x = held_at names n x (n == x) refl

-- a name that isn't listed keeps what it holds
pub held_kept : (old : List Slot) (xs : List ℕ) (x : ℕ) → is_listed xs x ≡ false → slot_named (all_freed old xs) x ≡ slot_named old x
held_kept old [] x e = refl
held_kept old (y ∷ ys) x e =
    let parts = or_parts (y == x) (is_listed ys x) e in
    held_kept (slice_set old y Free) ys x parts.1 ∙ held_other old y x Free (differ y x parts.0)

-- where nothing changes, none but these names may be free
pub MayFree-none : (xs : List ℕ) (old : List Slot) → MayFree xs old old
MayFree-none xs old = (refl, λ name. inl refl)

next_at : (old new : List Slot) (n : ℕ) (xs : List ℕ) (x : ℕ) → (slot_named new x ≡ slot_named (slice_set old n Free) x)
    ⊎ (IsTrue (is_listed xs x) × (slot_named new x ≡ Free))
    → (slot_named (slice_set old n Free) x ≡ slot_named old x) ⊎ (IsTrue (n == x) × (slot_named (slice_set old n Free) x ≡ Free))
    → (slot_named new x ≡ slot_named old x) ⊎ (IsTrue (is_listed (n ∷ xs) x) × (slot_named new x ≡ Free))
next_at old new n xs x (inr listed) now = inr (rw listed.0 (or-true (n == x)), listed.1)
next_at old new n xs x (inl kept) (inl same) = inl (kept ∙ same)
next_at old new n xs x (inl kept) (inr freed) = inr (rw freed.0 refl, kept ∙ freed.1)

-- one name more
pub MayFree-next : (old new : List Slot) (n : ℕ) (xs : List ℕ) → MayFree xs (slice_set old n Free) new → MayFree (n ∷ xs) old new
MayFree-next old new n xs may = (may.0 ∙ length-set old n Free, λ x. next_at old new n xs x (may.1 x) (held_one old n x))

-- some of the names were freed, in order; and all of them
pub MayFree-front : (xs : List ℕ) (k : ℕ) (old : List Slot) → MayFree xs old (all_freed old (take k xs))
MayFree-front [] zero old = MayFree-none [] old
MayFree-front [] (suc k) old = MayFree-none [] old
MayFree-front (x ∷ xs) zero old = MayFree-none (x ∷ xs) old
MayFree-front (x ∷ xs) (suc k) old = MayFree-next old _ x xs (MayFree-front xs k (slice_set old x Free))

-- where these names are freed, none but these may be free
pub MayFree-all : (xs : List ℕ) (old : List Slot) → MayFree xs old (all_freed old xs)
MayFree-all [] old = MayFree-none [] old
MayFree-all (x ∷ xs) old = MayFree-next old _ x xs (MayFree-all xs (slice_set old x Free))
