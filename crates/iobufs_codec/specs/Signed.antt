-- Signed numbers: each is written as the number of its bits (two's complement).
--     signed_form    the form of a signed number, from the form of its bits
--     one_of_bits    numbers with the same bits are equal
--     small_8, small_16, small_32, small_64, small_128    the bits of a number fit its width
use Rattle.std.proofs.Common.{◌≡◌, ℕ, ℤ, ◌^◌, ◌<◌, List, ap, sym, ◌∙◌, arith}
use Rattle.std.proofs.lemmas.Int.{ints, to_z-of_z}
use Rattle.std.specs.Int.{Width, w8, w16, w32, w64, w128, cast_signed, cast_unsigned}
use Rattle.std.specs.Int.RustNames.{FitsSigned}
use Rattle.iobufs_core.specs.MarkedText.{MarkedText}
use Rattle.iobufs_codec.specs.Form.{IsForm}
use Rattle.iobufs_codec.specs.declared.fault.Fault.{Fault}

pub signed_form : {S U C : Type 0} {w : U → List ℕ} {same : U → U → Type 0} {ok : C → U → Type 0} {found : MarkedText → ℕ → C → U → Type 0}
    {fault : MarkedText → ℕ → C → Fault → Type 0} (fits : S → Type 0) (bits : S → U) → IsForm U C w same ok found fault
    → ((x y : S) → fits x → fits y → same (bits x) (bits y) → x ≡ y)
    → ((cfg : C) (x : S) → fits x → ok cfg (bits x))
    → IsForm S C (λ x. w (bits x)) (λ x y. x ≡ y) (λ _ x. fits x) (λ text skip cfg x. fits x × found text skip cfg (bits x)) fault
signed_form {w = w} fits bits form one admitted = record {
  same_written = λ x y e. ap (λ z. w (bits z)) e;
  no_front = λ x y cfg other u v p q e. one x y p q
      (form.no_front (bits x) (bits y) cfg other u v (admitted cfg x p) (admitted other y q) e);
  found_written = λ x cfg text skip h. let (in', front) = form.found_written (bits x) cfg text skip h.1 in (h.0, front);
  refuses = λ x cfg text skip rest fault p e h. form.refuses (bits x) cfg text skip rest fault (admitted cfg x p) e h;
  one_fault = λ s t skip cfg a b e p q. form.one_fault s t skip cfg a b e p q;
}

pub one_of_bits : (w : Width) (x y : ℤ) → FitsSigned w x → FitsSigned w y → cast_unsigned w x ≡ cast_unsigned w y → x ≡ y
one_of_bits w x y p q e = sym (to_z-of_z w x p) ∙ ap (cast_signed w) e ∙ to_z-of_z w y q

pub small_8 : (z : ℤ) → FitsSigned w8 z → cast_unsigned w8 z < 2 ^ 8
small_8 z fits = omega (arith, ints)

pub small_16 : (z : ℤ) → FitsSigned w16 z → cast_unsigned w16 z < 2 ^ 16
small_16 z fits = omega (arith, ints)

pub small_32 : (z : ℤ) → FitsSigned w32 z → cast_unsigned w32 z < 2 ^ 32
small_32 z fits = omega (arith, ints)

pub small_64 : (z : ℤ) → FitsSigned w64 z → cast_unsigned w64 z < 2 ^ 64
small_64 z fits = omega (arith, ints)

pub small_128 : (z : ℤ) → FitsSigned w128 z → cast_unsigned w128 z < 2 ^ 128
small_128 z fits = omega (arith, ints)
