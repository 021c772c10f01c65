-- Bytes after the first of an input.
use Rattle.std.proofs.Common.{◌≡◌, ℕ, zero, suc, ◌-◌, ◌≤◌, List, [], ◌∷◌, length, drop, slice_get, None, refl, arith, length-drop}
use Rattle.std.proofs.lemmas.Option.{slice_get_past}

pub none_behind : (xs : List ℕ) (k i : ℕ) → length xs - k ≤ i → slice_get (drop k xs) i ≡ None
none_behind xs k i h = let len = length-drop k xs in slice_get_past (drop k xs) i (omega (arith, len))

-- the first of them
pub first_behind : (xs : List ℕ) (k : ℕ) → slice_get (drop k xs) 0 ≡ slice_get xs k
first_behind [] zero = refl
first_behind [] (suc k) = refl
first_behind (x ∷ xs) zero = refl
first_behind (x ∷ xs) (suc k) = first_behind xs k
