-- What lines may do to a service, by the definitions.
use Rattle.std.specs.Prelude.{◌≡◌, ℕ, Option, Some, None}
use Rattle.std.proofs.Common.{zero, suc, subst, ◌∙◌, arith}
use Rattle.iobufs_owner.specs.Promises.{Promises}
use Rattle.iobufs_owner.specs.State.{Seen, fresh}
use Rattle.iobuf.specs.Session.{IsServed, IsStatus, MachineTakes, TakesLines}

-- two lines are taken in turn
two_lines : {S : Type 0} (takes : S → S → Type 0) (old new : S) → TakesLines takes 2 old new
    → (mid : S) × takes old mid × takes mid new
two_lines takes old new (mid, (first, same, one), two) = (mid, subst (λ s. takes s mid) same one, two)

-- a session of a service that no line changes leaves it
unchanged_by_lines : {S : Type 0} (n : ℕ) (old new : S) → TakesLines (λ a b. b ≡ a) n old new → new ≡ old
unchanged_by_lines zero old new same = same
unchanged_by_lines (suc n) old new (mid, before, last) = last ∙ unchanged_by_lines n old mid before

served_unchanged : {S : Type 0} (old new : S) → IsServed (λ a b. b ≡ a) old new → new ≡ old
served_unchanged old new (n, lines) = unchanged_by_lines n old new lines

-- a line makes a machine as promised, in which nothing has happened
made : (new : Seen) → MachineTakes None (Some new)
    → (align tail size ceiling threads : ℕ) × (new.state ≡ fresh align tail size ceiling threads) × Promises new.state
made new is = is

-- no line takes a machine away
not_taken_away : (old : Seen) → MachineTakes (Some old) None → ⊥
not_taken_away old is = is

-- no status is 1
no_other_status : IsStatus 1 → ⊥
no_other_status is = grind arith
