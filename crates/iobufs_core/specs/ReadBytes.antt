-- The rest of a reader after a length and its bytes are read. Impls cite these lemmas, so they are in `specs/`.
--     bytes-taken_view, length-taken_view    what is taken as one view has these bytes, and this length
--     bytes-rest, bytes-advanced             what a copy or an advance leaves
--     IsThere, view_there                    a view of n bytes follows its varint length at the front
--     left_by_copy, rest_by_copy             a value made of the bytes after a length is dropped by one copy of
--                                            length and bytes
use Rattle.std.proofs.Common.{◌≡◌, ℕ, ◌+◌, ◌≤◌, List, ◌++◌, length, take, drop, arith, ap, sym, ◌∙◌, Result, Ok, Err, IfOk, append_assoc, length-append, take-append-drop}
use Rattle.std.proofs.lemmas.Bool.Decides.{nat_tests}
use Rattle.std.proofs.lemmas.Grind.{common_steps}
use Rattle.std.proofs.lemmas.List.{drop-drop, drop_all}
use Rattle.iobufs_core.specs.MarkedText.{MarkedText, taken_view, text_advanced, text_rest, text_right}
use Rattle.iobufs_core.specs.Spelling.{spell}
use Rattle.iobufs_core.specs.View.{View}
use Rattle.iobufs_core.specs.Wire.{IsTaken, bytes_written, view_written}
use Rattle.iobufs_core.specs.declared.codec.base.Error.{Error}
use Rattle.iobufs_core.specs.declared.codec.base.RangeCfg.{RangeCfg}

-- a taken view has these bytes, and the requested number of them
pub bytes-taken_view : (text : MarkedText) (skip n : ℕ) → (taken_view text skip n).bytes ≡ take n (drop skip text.bytes)
unfolding taken_view
bytes-taken_view text skip n = grind (arith, nat_tests, common_steps)

pub length-taken_view : (text : MarkedText) (skip n : ℕ) → skip + n ≤ length text.bytes → length (taken_view text skip n).bytes ≡ n
unfolding taken_view
length-taken_view text skip n within = grind (arith, nat_tests, common_steps)

-- the written value is as long as what was dropped
written_long : {Value Reader : Type 0} (bytes_of : Value → List ℕ) (makes : View → Value → Type 0) (copied : Reader → ℕ → Reader)
    (text : MarkedText)
    (range : RangeCfg)
    (old new : Reader) (value : Value) → ((view : View) (made : Value) → makes view made → bytes_of made ≡ view.bytes)
    → (taken : IsTaken makes copied text range old new value) → length (spell taken.n) + taken.n ≡ length (bytes_written (bytes_of value))
written_long bytes_of makes copied text range old new value same taken =
    let n = taken.n in
    let bytes = bytes_of value in
    let (spelled, long) = taken.there in
    let len : length bytes ≡ n = ap length (same (taken_view text (length (spell n)) n) value taken.made)
    ∙ length-taken_view text (length (spell n)) n long in
    let first : length (spell (length bytes)) ≡ length (spell n) = ap (λ k. length (spell k)) len in
    omega (arith, len, first, length-append (spell (length bytes)) bytes)

pub left_by_copy : {Value Reader : Type 0} (bytes_of : Value → List ℕ) (makes : View → Value → Type 0) (copied : Reader → ℕ → Reader)
    (text : MarkedText) (range : RangeCfg) (old new : Reader) (result : Result Value Error)
    → ((view : View) (made : Value) → makes view made → bytes_of made ≡ view.bytes)
    → IfOk result (IsTaken makes copied text range old new)
    → IfOk result (λ value. new ≡ copied old (length (bytes_written (bytes_of value))))
left_by_copy bytes_of makes copied text range old new (Ok value) same taken =
    taken.left ∙ ap (copied old) (written_long bytes_of makes copied text range old new value same taken)
left_by_copy bytes_of makes copied text range old new (Err e) same taken = tt

pub rest_by_copy : {Value Reader : Type 0} (bytes_of : Value → List ℕ) (makes : View → Value → Type 0) (copied : Reader → ℕ → Reader)
    (marked : Reader → MarkedText)
    (range : RangeCfg) (old new : Reader) (result : Result Value Error)
    → ((view : View) (made : Value) → makes view made → bytes_of made ≡ view.bytes)
    → ((n : ℕ) → n ≤ length (marked old).bytes → marked (copied old n) ≡ text_rest (marked old) n)
    → IfOk result (IsTaken makes copied (marked old) range old new)
    → IfOk result (λ value. marked new ≡ text_rest (marked old) (length (bytes_written (bytes_of value))))
rest_by_copy bytes_of makes copied marked range old new (Ok value) same copies taken =
    let (spelled, long) = taken.there in
    ap marked taken.left ∙ copies (length (spell taken.n) + taken.n) long
    ∙ ap (text_rest (marked old)) (written_long bytes_of makes copied (marked old) range old new value same taken)
rest_by_copy bytes_of makes copied marked range old new (Err e) same copies taken = tt

-- a copy of the first n bytes leaves the others
pub bytes-rest : (text : MarkedText) (n : ℕ) → n ≤ length text.bytes → (text_rest text n).bytes ≡ drop n text.bytes
unfolding text_right
bytes-rest text n h = grind (arith, nat_tests, common_steps, drop_all)

-- an advance over the first n bytes leaves the others
pub bytes-advanced : (text : MarkedText) (n : ℕ) → n ≤ length text.bytes → (text_advanced text n).bytes ≡ drop n text.bytes
unfolding text_right
bytes-advanced text n h = grind (arith, nat_tests, common_steps, drop_all)

-- a view with n bytes follows its length, before other bytes
pub record IsThere (text : MarkedText) (n : ℕ) (view : View) : Type 0 where
  pub long : length view.bytes ≡ n
  pub within : length (view_written view) ≤ length text.bytes
  pub whole : text.bytes ≡ view_written view ++ drop (length (view_written view)) text.bytes

pub view_there : (text : MarkedText) (n : ℕ) (view : View) → take (length (spell n)) text.bytes ≡ spell n
    → length (spell n) + n ≤ length text.bytes
    → view ≡ taken_view text (length (spell n)) n
    → IsThere text n view
view_there text n view at within is =
    let k = length (spell n) in
    let bytes : view.bytes ≡ take n (drop k text.bytes) = ap (λ (v : View). v.bytes) is ∙ bytes-taken_view text k n in
    let len : length view.bytes ≡ n = ap (λ (v : View). length v.bytes) is ∙ length-taken_view text k n within in
    let long : length (view_written view) ≡ k + n = length-append (spell (length view.bytes)) view.bytes
    ∙ ap (λ m. length (spell m) + m) len in
    let whole : spell n ++ (take n (drop k text.bytes) ++ drop (k + n) text.bytes) ≡ text.bytes =
    ap (λ xs. spell n ++ (take n (drop k text.bytes) ++ xs)) (sym (drop-drop n k text.bytes))
    ∙ ap (λ xs. spell n ++ xs) (take-append-drop n (drop k text.bytes)) ∙ ap (λ xs. xs ++ drop k text.bytes) (sym at)
    ∙ take-append-drop k text.bytes in
    let front : view_written view ≡ spell n ++ take n (drop k text.bytes) = ap (λ m. spell m ++ view.bytes) len
    ∙ ap (λ xs. spell n ++ xs) bytes in record {
      long = len;
      within = omega (arith, within, long);
      whole =
          sym (ap (λ xs. xs ++ drop (length (view_written view)) text.bytes) front
          ∙ append_assoc (spell n) (take n (drop k text.bytes)) (drop (length (view_written view)) text.bytes)
          ∙ ap (λ m. spell n ++ (take n (drop k text.bytes) ++ drop m text.bytes)) long ∙ whole);
    }
