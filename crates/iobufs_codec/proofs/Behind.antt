-- A refusal after values that are found.
--     refused_so        an answer that is this error meets what the error meets
--     length_five       the length of five byte strings, concatenated
--     fault_behind      it is a fault of a list, of one value behind those that are found
--     found_more        a value behind those that are found is found with them
use Rattle.std.proofs.Common.{zero, suc, ◌<◌, [], ◌∷◌, ◌++◌, length-append, arith, inl, ◌≡◌, ℕ, ◌+◌, Result, Ok, Err, List, length, IfErr, inr, sym, subst}
use Rattle.std.specs.List.{flat_map}
use Rattle.std.specs.Result.{IsErrAnd}
use Rattle.iobufs_core.specs.MarkedText.{MarkedText}
use Rattle.iobufs_codec.specs.Listed.{AreFound, IsOneFault}
use Rattle.iobufs_codec.specs.declared.fault.Fault.{Fault}

-- an answer that is this error meets what the error meets
pub refused_so : {T E : Type 0} (P : E → Type 0) (r : Result T E) (e : E) → IsErrAnd r (λ x. x ≡ e) → P e → IfErr r P
refused_so P (Ok x) e h p = tt
refused_so P (Err x) e h p = subst P (sym h) p

-- five byte strings, concatenated, are as long as they are together
pub length_five : (a b c d e : List ℕ) → length (a ++ (b ++ (c ++ (d ++ e)))) ≡ length a + length b + length c + length d + length e
length_five a b c d e = omega (
  arith,
  length-append a (b ++ (c ++ (d ++ e))),
  length-append b (c ++ (d ++ e)),
  length-append c (d ++ e),
  length-append d e,
)

further : (skip m n all : ℕ) → all ≡ m + n → skip + all ≡ skip + m + n
further skip m n all e = omega (arith, e)

-- the values are found, fewer than there are to be, and what is after them has a fault
pub fault_behind : {Value Cfg : Type 0} (written : Value → List ℕ) (is_found : MarkedText → ℕ → Cfg → Value → Type 0)
    (is_fault : MarkedText → ℕ → Cfg → Fault → Type 0) (text : MarkedText) (cfg : Cfg) (f : Fault) (xs : List Value) (n skip : ℕ)
    → length xs < n
    → AreFound written is_found text skip cfg xs → is_fault text (skip + length (flat_map written xs)) cfg f
    → IsOneFault written is_found is_fault n text skip cfg f
fault_behind written is_found is_fault text cfg f xs zero skip few found fault = absurd (omega (arith, few))
fault_behind written is_found is_fault text cfg f [] (suc n) skip few found fault =
    let here : skip + 0 ≡ skip = omega arith in
    inl (subst (λ k. is_fault text k cfg f) here fault)
fault_behind written is_found is_fault text cfg f (x ∷ xs) (suc n) skip few found fault =
    let there = further skip (length (written x)) (length (flat_map written xs)) _ (length-append (written x) (flat_map written xs)) in
    inr (
      x,
      found.0,
      fault_behind written is_found is_fault text cfg f xs n (skip + length (written x)) (omega (arith, few)) found.1
          (subst (λ k. is_fault text k cfg f) there fault),
    )

-- the values are found, and one after them
pub found_more : {Value Cfg : Type 0} (written : Value → List ℕ) (is_found : MarkedText → ℕ → Cfg → Value → Type 0) (text : MarkedText)
    (cfg : Cfg)
    (x : Value) (xs : List Value) (skip : ℕ) → AreFound written is_found text skip cfg xs
    → is_found text (skip + length (flat_map written xs)) cfg x
    → AreFound written is_found text skip cfg (xs ++ x ∷ [])
found_more written is_found text cfg x [] skip found is =
    let here : skip + 0 ≡ skip = omega arith in
    (subst (λ k. is_found text k cfg x) here is, tt)
found_more written is_found text cfg x (y ∷ ys) skip found is =
    let there = further skip (length (written y)) (length (flat_map written ys)) _ (length-append (written y) (flat_map written ys)) in
    (found.0, found_more written is_found text cfg x ys (skip + length (written y)) found.1 (subst (λ k. is_found text k cfg x) there is))
