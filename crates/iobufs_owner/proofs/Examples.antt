-- Answers that are no step of the machine, by the definitions.
use Rattle.std.specs.Prelude.{◌≡◌, true, false, [], ◌∷◌, None, Some, refl}
use Rattle.std.proofs.Common.{arith, inl, inr, subst, sym}
use Rattle.iobufs_owner.specs.Types.{View, Begin, Drop, Go, New, Put, TryIntoMut, Memory, Done, Declined, Made, Refused}
use Rattle.iobufs_owner.specs.Places.{is_power_below}
use Rattle.iobufs_owner.specs.World.{World, LiveHandle, Sharing, holders}
use Rattle.iobufs_owner.specs.Causes.{IsBeside}
use Rattle.iobufs_owner.specs.Promises.{Promises}
use Rattle.iobufs_owner.specs.Reading.{reading}
use Rattle.iobufs_owner.specs.State.{State}
use Rattle.iobufs_owner.specs.Steps.{Steps, Begins, DropIs, RecoverIs, native_block}

-- a view of four bytes, the only handle of a block of eight
abbrev view : LiveHandle
view = record { kind = View; block = Some 0; place = 0; len = 4 }

abbrev one : World
one = record { ceiling = 4; blocks = native_block 0 8 1 ∷ []; freed = false ∷ []; handles = Some view ∷ []; calls = None ∷ [] }

-- a drop allocates nothing
drop_wants_no_memory : (next : World) → Steps one (record { thread = 0; act = Begin (Drop 0) false }) (Refused Memory) next → ⊥
unfolding Begins
drop_wants_no_memory next (x, held, drops) =
    let is : view ≡ x = cc in
    elim (subst (λ x. DropIs one 0 0 x (Refused Memory) next) (sym is) drops) [
      | inl freed ↦ absurd (let e = freed.1 in cc)
      | inr more ↦ absurd (let e = more.goes.0 in cc)
    ]

-- the sole holder of native storage gets it back
sole_holder_is_not_declined : (next : World) → Steps one (record { thread = 0; act = Begin (TryIntoMut 0) false }) Declined next → ⊥
unfolding Begins holders
sole_holder_is_not_declined next (x, held, recovers) =
    let is : view ≡ x = cc in
    elim (subst (λ x. RecoverIs one 0 x Declined next) (sym is) recovers) [
      | inl done ↦ absurd (let e = done.1 in cc)
      | inr declined ↦ declined.0 (refl, refl)
    ]

-- nothing is put into a view
view_takes_no_put : (next : World) → Steps one (record { thread = 0; act = Begin (Put 0 1) false }) Done next → ⊥
view_takes_no_put next step = absurd (let e = step.0 in cc)

-- a step that is granted memory isn't refused for it
granted_memory_is_there : (next : World) → Steps one (record { thread = 0; act = Begin (New 8 4 1) true }) (Refused Memory) next → ⊥
unfolding Begins is_power_below
granted_memory_is_there next step = elim step [ inl full ↦ absurd (let e = full.0 in cc) | inr made ↦ absurd (let e = made.0 in cc) ]

-- two views of a block that may have one holder, and the last step of a clone
abbrev over : World
over = record {
  ceiling = 1;
  blocks = native_block 0 8 1 ∷ [];
  freed = false ∷ [];
  handles = Some view ∷ Some view ∷ [];
  calls = Some (Sharing 0 0 4 1) ∷ [];
}

-- one holder too many isn't passed by another
ceiling_is_not_passed_again : (next : World) → Steps over (record { thread = 0; act = Go true }) (Made 2) next → ⊥
unfolding holders
ceiling_is_not_passed_again next step = absurd (let e = step.0 in cc)

-- a step that is granted memory has no want of it beside its cause
granted_memory_is_no_cause : IsBeside true Memory → ⊥
granted_memory_is_no_cause beside =
    elim beside [ inl denied ↦ absurd (let e = denied.1 in cc) | inr room ↦ absurd (let e = room in cc) ]

-- no block has three holders under a ceiling of one
third_holder_is_none : (s : State) → Promises s → s.ceiling ≡ 1 → holders (reading s) 0 ≡ 3 → ⊥
third_holder_is_none s promises one three = absurd (omega (arith, promises.capped 0, one, three))
