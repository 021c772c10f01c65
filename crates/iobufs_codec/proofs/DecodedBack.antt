-- A value that was encoded is decoded again.
--     none_decoded, none_read    an answer that is the fault of a failed allocation meets the clause
--     rest_left                  the rest of an input is left after an encoding that is dropped
use Rattle.std.proofs.Common.{◌≡◌, ℕ, Result, Ok, Err, List, ◌++◌, length, drop, ap, sym, ◌∙◌}
use Rattle.std.proofs.Math.Seq.{drop-append_seam}
use Rattle.std.specs.Result.{IsErrAnd}
use Rattle.iobufs_codec.specs.Form.{IsDecodedBack, IsReadBackWhole, no_memory}
use Rattle.iobufs_codec.specs.declared.fault.Fault.{Fault}

-- an answer that is the fault of a failed allocation meets the clause of decoding
pub none_decoded : {A : Type 0} (same : A → A → Type 0) (x : A) (r : Result A Fault) (f : Fault) → IsErrAnd r (λ e. e ≡ f) → f ≡ no_memory
    → IsDecodedBack same x r
none_decoded same x (Ok y) f h memory = absurd h
none_decoded same x (Err e) f h memory = h ∙ memory

-- an answer that is the fault of a failed allocation meets the clause of reading
pub none_read : {A : Type 0} (same : A → A → Type 0) (x : A) (rest left : List ℕ) (r : Result A Fault) (f : Fault) → IsErrAnd r (λ e. e ≡ f)
    → f ≡ no_memory → IsReadBackWhole same x rest left r
none_read same x rest left (Ok y) f h memory = absurd h
none_read same x rest left (Err e) f h memory = h ∙ memory

-- if an input begins with the encoding of a value, dropping as many bytes as that of an equal value leaves the rest
pub rest_left : (x y bytes rest left : List ℕ) (n : ℕ) → bytes ≡ x ++ rest → x ≡ y → n ≡ length y → left ≡ drop n bytes → left ≡ rest
rest_left x y bytes rest left n whole one len is =
    is ∙ ap (λ k. drop k bytes) (len ∙ ap length (sym one)) ∙ ap (drop (length x)) whole ∙ drop-append_seam x rest
