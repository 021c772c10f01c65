-- Runs of the concrete state, with the capacities of its tables.
--     IsMove         a step by the tables, as users see it too; no table's capacity changes
--     GrowingRuns    a list of them with its replies, in which tables may get more capacity before each
use Rattle.std.specs.Prelude.{◌≡◌, List, [], ◌∷◌}
use Rattle.iobufs_owner.specs.Types.{Step, Reply}
use Rattle.iobufs_owner.specs.State.{Seen, KeepsRoom}
use Rattle.iobufs_owner.specs.Moves.{Moves}
use Rattle.iobufs_owner.specs.Runs.{IsStep}

-- a move by the tables, and a step as users see it; no table's capacity changes, so its free space falls by what is added to
-- it alone
pub record IsMove (m : Seen) (step : Step) (reply : Reply) (next : Seen) : Type 0 where
  pub moves : Moves m step reply next
  pub room : next.room ≡ m.room
  pub seen : IsStep m.state step reply next.state

-- a run of moves, in which tables may get more capacity before each
abbrev pub GrowingRuns : Seen → List Step → List Reply → Seen → Type 0
GrowingRuns m [] [] next = next ≡ m
GrowingRuns m (step ∷ steps) (reply ∷ replies) next =
    (grown mid : Seen) × (grown.state ≡ m.state) × KeepsRoom m.room grown.room × IsMove grown step reply mid
    × GrowingRuns mid steps replies next
GrowingRuns m [] (reply ∷ replies) next = ⊥
GrowingRuns m (step ∷ steps) [] next = ⊥
