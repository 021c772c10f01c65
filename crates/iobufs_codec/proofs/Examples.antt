-- What the conditions on decoded values exclude.
use Rattle.std.specs.Prelude.{◌≡◌, ℕ, List, refl}
use Rattle.std.proofs.Common.{inl, inr}
use Rattle.iobufs_core.specs.MarkedText.{MarkedText}
use Rattle.iobufs_codec.specs.Form.{IsForm, no_memory}
use Rattle.iobufs_codec.specs.declared.fault.Fault.{Fault}

-- two faults at the same bytes are one, if no allocation failed
faults_agree : {Value Cfg : Type 0} (written : Value → List ℕ) (same : Value → Value → Type 0) (admits : Cfg → Value → Type 0)
    (is_found : MarkedText → ℕ → Cfg → Value → Type 0) (is_fault : MarkedText → ℕ → Cfg → Fault → Type 0)
    → IsForm Value Cfg written same admits is_found is_fault
    → (text : MarkedText) (skip : ℕ) (cfg : Cfg) (a b : Fault) → is_fault text skip cfg a → is_fault text skip cfg b
    → (a ≡ no_memory → ⊥) → (b ≡ no_memory → ⊥) → a ≡ b
faults_agree written same admits is_found is_fault form text skip cfg a b first second whole other =
    elim (form.one_fault text text skip cfg a b refl first second) [
      | inl one ↦ one
      | inr none ↦ elim none [ inl x ↦ absurd (whole x) | inr y ↦ absurd (other y) ]
    ]
