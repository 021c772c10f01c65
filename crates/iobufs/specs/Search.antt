-- Rising end places, and the first past a place.
--     IsRising       each end is greater than those before it
--     IsFirstPast    the chunk that a place is in: its end is past the place, and none before it is
use Rattle.std.specs.Prelude.{ℕ, ◌<◌, ◌≤◌, List, length, get_or}

abbrev pub IsRising : List ℕ → Type 0
IsRising ends = (i j : ℕ) → i < j → j < length ends → get_or ends i 0 < get_or ends j 0

-- the least i whose end is above the place
pub record IsFirstPast (ends : List ℕ) (place i : ℕ) : Type 0 where
  pub inside : i < length ends
  pub past : place < get_or ends i 0
  pub before : (j : ℕ) → j < i → get_or ends j 0 ≤ place
